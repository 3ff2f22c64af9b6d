use Rattle.std.proofs.Common.{◌++◌, Option, sym, ap, ◌∙◌, arith}
use Rattle.std.proofs.lemmas.List.{append-nil}
use Rattle.std.proofs.lemmas.Option.{slice_get_past}
use Rattle.route_geometry.specs.declared.leg.Leg.{Leg}
use Rattle.route_check.specs.Route.{legs_of}
use Rattle.route_check.specs.Ask.{rows_with}
use Rattle.route_check.proofs.reports.push_rows.Goals as goal

pub returns-else-before-leg_count : goal.returns-else-before-leg_count
returns-else-before-leg_count c =
    let rows = c.args.rows.now.items in
    let none = slice_get_past (legs_of c.args.route.now) c.args.before (omega (arith, c.leg_count.ensures.legs, c.if-before-leg_count.false)) in
    sym (append-nil rows) ∙ ap (λ (found : Option Leg). rows ++ rows_with c.args.objects.now c.args.before found) (sym none)

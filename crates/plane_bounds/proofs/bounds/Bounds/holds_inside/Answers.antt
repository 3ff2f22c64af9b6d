use Rattle.std.proofs.Common.{sym, ◌∙◌}
use Rattle.std.proofs.lemmas.Bool.{false≢true}
use Rattle.std.proofs.lemmas.Bool.Decides.{same_from_decides}
use Rattle.plane_bounds.specs.Inside.{is_inside}
use Rattle.plane_bounds.proofs.Inside.{Decides-inside}
use Rattle.plane_bounds.proofs.Outside.{none_outside}
use Rattle.plane_bounds.proofs.bounds.Bounds.holds_inside.Goals as goal

pub returns-then-holds : goal.returns-then-holds
returns-then-holds c =
    same_from_decides c.inside_even_odd.result (is_inside c.args.p c.args.rings.now) c.inside_even_odd.ensures (Decides-inside c.args.p c.args.rings.now)

pub returns-else-holds : goal.returns-else-holds
returns-else-holds c =
    c.if-holds.false
    ∙ sym (none_outside c.args.self c.args.p c.args.rings.now c.requires (λ q. false≢true (sym c.if-holds.false ∙ c.holds.ensures.1 q)))

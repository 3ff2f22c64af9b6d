use Rattle.std.proofs.Common.{List, sym, ap, ◌∙◌}
use Rattle.plane_geometry.specs.declared.point.Pt.{Pt}
use Rattle.route_check.specs.Meeting.{meets_line}
use Rattle.route_check.proofs.Lines.{whole_line}
use Rattle.route_check.proofs.meeting.meets_line.Goals as goal

pub loop-to-init : goal.loop-to-init
loop-to-init c =
    whole_line c.args.leg.now c.in-Some.first.now c.in-Some.others.now
    ∙ ap (λ (line : List Pt). meets_line c.args.leg.now line) (sym c.in-Some.ensures.cases.0)

use Rattle.std.proofs.Common.{◌≡◌, drop}
use Rattle.std.specs.List.{list_any}
use Rattle.plane_geometry.proofs.Walk.{line_from}
use Rattle.route_geometry.specs.Parted.{meets_segment}
use Rattle.route_check.specs.Meeting.{meets_line}
use Rattle.route_check.proofs.meeting.meets_line.Given as goal

abbrev pub invariant-loop-to : goal.invariant-loop-to
invariant-loop-to l =
    list_any (λ s. meets_segment l.leg s.0 s.1) (line_from l.from (drop l.to-index l.others)) ≡ meets_line l.leg l.line

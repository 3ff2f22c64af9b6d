use Rattle.std.proofs.lemmas.Bool.Decides.{same_from_decides}
use Rattle.route_geometry.specs.Parted.{meets_segment}
use Rattle.route_check.proofs.meeting.meets_segment.Goals as goal

pub returns : goal.returns
returns c =
    same_from_decides c.leg_meets_segment.result (meets_segment c.args.leg.now c.args.from c.args.to) c.leg_meets_segment.ensures
    (c.meetings_are_tested.ensures.segment c.args.leg.now c.args.from c.args.to)

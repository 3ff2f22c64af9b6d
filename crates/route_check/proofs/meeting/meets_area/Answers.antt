use Rattle.std.proofs.lemmas.Bool.Decides.{same_from_decides}
use Rattle.route_geometry.specs.Parted.{meets_area}
use Rattle.route_check.proofs.meeting.meets_area.Goals as goal

pub returns : goal.returns
returns c =
    same_from_decides c.leg_meets_area.result (meets_area c.args.leg.now c.args.rings.now) c.leg_meets_area.ensures.segments
    (c.meetings_are_tested.ensures.area c.args.leg.now c.args.rings.now)

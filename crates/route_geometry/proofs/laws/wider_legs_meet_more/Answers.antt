use Rattle.route_geometry.proofs.Wider.{wider_meets_segment, wider_meets_area}
use Rattle.route_geometry.proofs.laws.wider_legs_meet_more.Goals as goal

pub returns : goal.returns
returns c = record { segment = wider_meets_segment; area = wider_meets_area }

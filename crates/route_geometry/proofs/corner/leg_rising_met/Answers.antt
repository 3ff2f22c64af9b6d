use Rattle.route_geometry.proofs.Corners.{segment_turned_met, segment_turned_back}
use Rattle.route_geometry.proofs.corner.leg_rising_met.Goals as goal

pub returns-else-f-ge0 : goal.returns-else-f-ge0
returns-else-f-ge0 c =
    let turned_f = c.segment_turned.ensures in
    let turned_g = c.segment_turned-else-f-ge0.ensures in (
      λ h. segment_turned_met _ _ _ _ (segment_turned_back _ _ turned_f) (segment_turned_back _ _ turned_g) (c.rising_met-else-f-ge0.ensures.0 h),
      λ met. c.rising_met-else-f-ge0.ensures.1 (segment_turned_met _ _ _ _ turned_f turned_g met),
    )

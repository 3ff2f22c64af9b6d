use Rattle.route_geometry.proofs.Corners.{leg_turned_met, leg_turned_back}
use Rattle.route_geometry.proofs.corner.both_met.Goals as goal

pub returns-else-f-ge0 : goal.returns-else-f-ge0
returns-else-f-ge0 c =
    let turned_f = c.leg_turned.ensures in
    let turned_g = c.leg_turned-else-f-ge0.ensures in (
      λ h. leg_turned_met _ _ _ _ (leg_turned_back _ _ turned_f) (leg_turned_back _ _ turned_g) (c.leg_rising_met-else-f-ge0.ensures.0 h),
      λ met. c.leg_rising_met-else-f-ge0.ensures.1 (leg_turned_met _ _ _ _ turned_f turned_g met),
    )

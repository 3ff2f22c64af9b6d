use Rattle.route_geometry.proofs.Corners.{exchanged_met, exchanged_back}
use Rattle.route_geometry.proofs.corner.rising_met.Goals as goal

pub returns-then-g-ge0-2 : goal.returns-then-g-ge0-2
returns-then-g-ge0-2 c =
    let exchanged_f = c.exchanged.ensures in
    let exchanged_g = c.exchanged-then-g-ge0-2.ensures in (
      λ h. exchanged_met _ _ _ _ (exchanged_back _ _ exchanged_f) (exchanged_back _ _ exchanged_g) (c.leg_gone_met-then-g-ge0-2.ensures.0 h),
      λ met. c.leg_gone_met-then-g-ge0-2.ensures.1 (exchanged_met _ _ _ _ exchanged_f exchanged_g met),
    )

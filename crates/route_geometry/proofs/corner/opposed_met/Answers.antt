use Rattle.route_geometry.proofs.Corners.{exchanged_met, exchanged_back}
use Rattle.route_geometry.proofs.corner.opposed_met.Goals as goal

pub returns-else-wide_product : goal.returns-else-wide_product
returns-else-wide_product c =
    let exchanged_f = c.exchanged.ensures in
    let exchanged_g = c.exchanged-else-wide_product.ensures in (
      λ h. exchanged_met _ _ _ _ (exchanged_back _ _ exchanged_f) (exchanged_back _ _ exchanged_g) (c.leg_first_met-else-wide_product.ensures.0 h),
      λ met. c.leg_first_met-else-wide_product.ensures.1 (exchanged_met _ _ _ _ exchanged_f exchanged_g met),
    )

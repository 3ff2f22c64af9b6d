use Rattle.std.proofs.Common.{sym, ◌∙◌}
use Rattle.std.proofs.lemmas.Bool.{false≢true}
use Rattle.route_geometry.proofs.Between.{bands_meet}
use Rattle.route_geometry.proofs.meeting.sides_meet.Goals as goal

pub returns-then-side_meets_band : goal.returns-then-side_meets_band
returns-then-side_meets_band c = (
  λ h. bands_meet c.args.x c.args.y (c.side_meets_band.ensures.0 c.if-side_meets_band.true) (c.side_meets_band-then-side_meets_band.ensures.0 h),
  λ (p, x, y). c.side_meets_band-then-side_meets_band.ensures.1 (p, x.1, y),
)

pub returns-else-side_meets_band : goal.returns-else-side_meets_band
returns-else-side_meets_band c = (
  λ h. absurd (false≢true (sym c.if-side_meets_band.false ∙ h)),
  λ (p, x, y). c.side_meets_band.ensures.1 (p, x.0, y),
)

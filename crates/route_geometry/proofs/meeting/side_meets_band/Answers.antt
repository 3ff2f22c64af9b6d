use Rattle.std.proofs.Common.{sym, ◌∙◌}
use Rattle.std.proofs.lemmas.Bool.{false≢true}
use Rattle.route_geometry.proofs.Between.{side_meets_band}
use Rattle.route_geometry.proofs.meeting.side_meets_band.Goals as goal

pub returns-then-both_met : goal.returns-then-both_met
returns-then-both_met c = (
  λ h. side_meets_band c.args.side c.args.band (c.both_met.ensures.0 c.if-both_met.true) (c.both_met-then-both_met.ensures.0 h),
  λ (p, in_side, band). c.both_met-then-both_met.ensures.1 (p, in_side, band.1),
)

pub returns-else-both_met : goal.returns-else-both_met
returns-else-both_met c = (
  λ h. absurd (false≢true (sym c.if-both_met.false ∙ h)),
  λ (p, in_side, band). c.both_met.ensures.1 (p, in_side, band.0),
)

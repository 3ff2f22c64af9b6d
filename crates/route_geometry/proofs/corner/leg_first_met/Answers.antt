use Rattle.std.proofs.Common.{arith}
use Rattle.std.proofs.lemmas.Int.{ints}
use Rattle.route_geometry.proofs.Corners.{IsAlongLeg, IsAlongSegment, IsLegFirst, met_along_leg, met_along_segment, reached_along_leg, reached_along_segment}
use Rattle.route_geometry.proofs.corner.leg_first_met.Goals as goal

pub returns-then-f-ge0 : goal.returns-then-f-ge0
returns-then-f-ge0 c =
    let f = c.args.f in
    let g = c.args.g in
    let order : IsLegFirst f g = record { leg = c.requires.leg; segment = c.requires.segment; leg_falls = c.requires.leg_falls; segment_falls = c.requires.segment_falls; cheaper = c.requires.cheaper } in
    let along_f : IsAlongLeg f c.along_leg.result = record { start = c.along_leg.ensures.start; step = c.along_leg.ensures.step } in
    let along_g : IsAlongLeg g c.along_leg-then-f-ge0.result = record { start = c.along_leg-then-f-ge0.ensures.start; step = c.along_leg-then-f-ge0.ensures.step } in (
      λ h. met_along_leg f g _ _ along_f along_g (c.both_reached.ensures.0 h),
      λ met. c.both_reached.ensures.1 (reached_along_leg f g _ _ along_f along_g order (omega (arith, ints, c.if-f-ge0.true)) met),
    )

pub returns-else-f-ge0 : goal.returns-else-f-ge0
returns-else-f-ge0 c =
    let f = c.args.f in
    let g = c.args.g in
    let order : IsLegFirst f g = record { leg = c.requires.leg; segment = c.requires.segment; leg_falls = c.requires.leg_falls; segment_falls = c.requires.segment_falls; cheaper = c.requires.cheaper } in
    let along_f : IsAlongSegment f c.along_segment.result = record { start = c.along_segment.ensures.start; step = c.along_segment.ensures.step } in
    let along_g : IsAlongSegment g c.along_segment-else-f-ge0.result = record { start = c.along_segment-else-f-ge0.ensures.start; step = c.along_segment-else-f-ge0.ensures.step } in (
      λ h. met_along_segment f g _ _ along_f along_g (c.both_reached-else-f-ge0.ensures.0 h),
      λ met. c.both_reached-else-f-ge0.ensures.1 (reached_along_segment f g _ _ along_f along_g order (omega (arith, ints, c.if-f-ge0.false)) met),
    )

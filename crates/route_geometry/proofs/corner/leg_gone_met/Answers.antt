use Rattle.route_geometry.proofs.Corners.{IsAlongSegment, met_along_segment, reached_from_leg_end}
use Rattle.route_geometry.proofs.corner.leg_gone_met.Goals as goal

pub returns : goal.returns
returns c =
    let f = c.args.f in
    let g = c.args.g in
    let along_f : IsAlongSegment f c.along_segment.result = record { start = c.along_segment.ensures.start; step = c.along_segment.ensures.step } in
    let along_g : IsAlongSegment g c.along_segment-2.result = record { start = c.along_segment-2.ensures.start; step = c.along_segment-2.ensures.step } in (
      λ h. met_along_segment f g _ _ along_f along_g (c.both_reached.ensures.0 h),
      λ met. c.both_reached.ensures.1 (reached_from_leg_end f g _ _ along_f along_g c.requires.leg c.requires.leg_rises met),
    )

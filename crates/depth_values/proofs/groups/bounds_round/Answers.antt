use Rattle.std.proofs.Common.{arith}
use Rattle.depth_values.proofs.Grouped.{round_next, round_all}
use Rattle.depth_values.proofs.groups.bounds_round.Goals as goal

pub loop-place-init : goal.loop-place-init
loop-place-init c = λ k q. absurd (omega (arith, q.1))

pub loop-place-preserved : goal.loop-place-preserved
loop-place-preserved c =
    round_next c.args.extents.now c.args.places.now c.loop-place.place-index _ c.loop-place.bounds c.with_extent-bounds.result c.loop-place-test.true c.with_extent-bounds.ensures.kept
    c.with_extent-bounds.ensures.there c.loop-place.invariant

pub returns : goal.returns
returns c = round_all c.args.extents.now c.args.places.now c.loop-place.place-index c.loop-place.bounds (omega (arith, c.loop-place-test.false)) c.loop-place.invariant

use Rattle.std.proofs.Common.{arith}
use Rattle.depth_values.proofs.Grouped.{points_next}
use Rattle.depth_values.proofs.asked.bounds_round.Goals as goal

pub loop-p-init : goal.loop-p-init
loop-p-init c = λ k d lt. absurd (omega (arith, lt))

pub loop-p-preserved : goal.loop-p-preserved
loop-p-preserved c =
    points_next c.args.points.now c.loop-p.p-index _ c.loop-p.bounds c.with-bounds.result c.loop-p-test.true c.with-bounds.ensures.kept c.with-bounds.ensures.there
    c.loop-p.invariant

pub returns : goal.returns
returns c = λ k d lt. c.loop-p.invariant k d (omega (arith, lt, c.loop-p-test.false))

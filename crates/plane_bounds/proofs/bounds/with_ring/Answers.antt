use Rattle.std.proofs.Common.{arith}
use Rattle.plane_bounds.proofs.Growth.{holds_itself, holds_then, points_more, here_any}
use Rattle.plane_bounds.proofs.bounds.with_ring.Goals as goal

pub loop-p-init : goal.loop-p-init
loop-p-init c = record { kept = holds_itself _; there = λ k d lt. absurd (omega (arith, lt)); least = λ other h all. h }

pub loop-p-preserved : goal.loop-p-preserved
loop-p-preserved c = record {
  kept = holds_then _ _ _ c.loop-p.invariant.kept c.with-grown.ensures.kept;
  there =
      points_more c.loop-p.grown c.with-grown.result c.args.ring.now c.loop-p.p-index c.with-grown.ensures.kept c.loop-p-test.true
      c.loop-p.invariant.there
      (here_any c.with-grown.result c.args.ring.now c.loop-p.p-index _ c.loop-p-test.true c.with-grown.ensures.there);
  least = λ other h all.
      c.with-grown.ensures.least other (c.loop-p.invariant.least other h all) (all c.loop-p.p-index _ c.loop-p-test.true);
}

pub returns : goal.returns
returns c = record {
  kept = c.loop-p.invariant.kept;
  all = λ k d lt. c.loop-p.invariant.there k d (omega (arith, lt));
  least = c.loop-p.invariant.least;
}

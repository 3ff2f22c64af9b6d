-- Changes that are made one after the other.
use Rattle.std.proofs.Common.{arith}
use Rattle.chart_store.proofs.work.make.Goals as goal

pub loop-init : goal.loop-init
loop-init c = record {
  advances = c.drafts_advance.ensures.none c.args.draft.now;
  counted = omega arith;
}

pub loop-preserved : goal.loop-preserved
loop-preserved c = record {
  advances = c.drafts_advance.ensures.turn _ _ _ c.loop.counter 1 c.loop.invariant.advances
      c.in_ok-make_next.ensures.made;
  counted = omega (arith, c.loop.invariant.counted);
}

use Rattle.iso8211_records.proofs.Tagged.{layout_at-here, layout_at-later, layout_at-none}
use Rattle.iso8211_records.proofs.descriptors.DescriptorMap.get.Goals as goal

pub returns-then-is_same : goal.returns-then-is_same
returns-then-is_same c = layout_at-here _ _ _ _ _ c.loop-pair-test.true c.pair-item.is c.if-is_same.ensures c.loop-pair.invariant

pub loop-pair-preserved : goal.loop-pair-preserved
loop-pair-preserved c = layout_at-later _ _ _ _ _ c.loop-pair-test.true c.pair-item.is c.if-is_same.ensures c.loop-pair.invariant

pub returns : goal.returns
returns c = layout_at-none _ _ _ _ c.loop-pair-test.false c.loop-pair.invariant

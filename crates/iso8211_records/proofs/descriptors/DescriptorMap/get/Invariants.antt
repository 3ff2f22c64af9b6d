use Rattle.std.proofs.Common.{◌≡◌, drop}
use Rattle.iso8211_records.specs.Kinds.{layout_at}
use Rattle.iso8211_records.proofs.descriptors.DescriptorMap.get.Given as goal

abbrev pub invariant-loop-pair : goal.invariant-loop-pair
invariant-loop-pair l = layout_at (drop l.pair-index l.pair-items) l.tag ≡ layout_at l.self l.tag

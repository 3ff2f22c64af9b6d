-- the items so far and those of the blocks that are left are all items
use Rattle.std.proofs.Common.{◌≡◌, ◌≤◌, ◌+◌}
use Rattle.chart_ports.specs.Count.{LAST}
use Rattle.panel_port.specs.Panel.{up_to_last, summary_of}
use Rattle.panel_port.proofs.Scenes.{items_in}
use Rattle.panel_port.proofs.shown.item_count.Given as goal

abbrev pub invariant-loop-block : goal.invariant-loop-block
invariant-loop-block l = record {
  in_range : l.items ≤ LAST;
  counted : up_to_last (l.items + items_in l.block-iterator) ≡ (summary_of l.blocks).items;
}

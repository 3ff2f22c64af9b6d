use Rattle.std.proofs.Common.{◌≡◌, ◌++◌, take}
use Rattle.std.specs.List.{flat_map}
use Rattle.draw_list.specs.Print.{item_line}
use Rattle.draw_list.proofs.lines.push_block.Given as goal

abbrev pub invariant-loop-item : goal.invariant-loop-item
invariant-loop-item l =
    l.lines ≡ l.initial.lines ++ flat_map (item_line l.drawn.block.priority l.drawn.block.geom l.drawn.rcid) (take l.item-index l.item-items)

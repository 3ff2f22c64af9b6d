use Rattle.std.proofs.Common.{◌≡◌, ◌++◌}
use Rattle.std.specs.List.{flat_map}
use Rattle.draw_list.specs.Known.{AreKnown}
use Rattle.draw_list.specs.Drawing.{drawn_of, blocks_in}
use Rattle.draw_list.proofs.drawing.drawn_blocks.Given as goal

abbrev pub invariant-loop-name : goal.invariant-loop-name
invariant-loop-name l =
    (l.blocks.items ++ flat_map (drawn_of l.from.cell.now l.from.table.now l.from.settings.now) l.name-iterator
    ≡ blocks_in l.from.cell.now l.from.table.now l.from.settings.now)
    × AreKnown l.from.cell.now l.from.settings.now l.known

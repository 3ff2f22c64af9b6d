use Rattle.std.proofs.Common.{◌≡◌, ◌++◌}
use Rattle.std.specs.List.{flat_map}
use Rattle.draw_list.specs.Known.{AreKnown}
use Rattle.draw_list.specs.Blocks.{named_of, named_blocks_in}
use Rattle.draw_list.proofs.blocks.blocks_of.Given as goal

abbrev pub invariant-loop-name : goal.invariant-loop-name
invariant-loop-name l =
    (l.blocks.items ++ flat_map (named_of l.cell l.table l.settings) l.name-iterator
    ≡ named_blocks_in l.cell l.table l.settings)
    × AreKnown l.cell l.settings l.known

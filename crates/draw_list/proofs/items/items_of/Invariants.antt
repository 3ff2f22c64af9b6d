use Rattle.std.proofs.Common.{◌≡◌, ◌++◌, drop}
use Rattle.std.specs.List.{flat_map}
use Rattle.draw_list.specs.Items.{items_by}
use Rattle.draw_list.specs.Known.{AreKnown}
use Rattle.draw_list.proofs.items.items_of.Given as goal

abbrev pub invariant-loop-instruction : goal.invariant-loop-instruction
invariant-loop-instruction l =
    (l.items ++ flat_map (items_by l.from.cell.now l.from.settings.now l.feature) (drop l.instruction-index l.instruction-items)
    ≡ flat_map (items_by l.from.cell.now l.from.settings.now l.feature) l.instructions)
    × AreKnown l.from.cell.now l.from.settings.now l.known

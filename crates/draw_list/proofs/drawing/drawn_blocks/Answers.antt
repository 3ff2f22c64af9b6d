use Rattle.std.proofs.Common.{◌≡◌, ◌++◌, rules}
use Rattle.std.specs.List.{flat_map}
use Rattle.draw_list.specs.Drawing.{drawn_of, blocks_in}
use Rattle.draw_list.proofs.drawing.drawn_blocks.Goals as goal

pub loop-name-init : goal.loop-name-init
loop-name-init c =
    let blocks : c.new-blocks.result.items
    ++ flat_map (drawn_of c.args.from.now.cell.now c.args.from.now.table.now c.args.from.now.settings.now)
    c.into_iter-name-iterator.result
    ≡ blocks_in c.args.from.now.cell.now c.args.from.now.table.now c.args.from.now.settings.now = search rules in
    (blocks, c.nothing-known.ensures c.args.from.now.cell.now c.args.from.now.settings.now)

use Rattle.std.proofs.Common.{◌≡◌, ◌++◌, rules}
use Rattle.std.specs.List.{flat_map}
use Rattle.draw_list.specs.Blocks.{named_of, named_blocks_in}
use Rattle.draw_list.proofs.Named.{made_by_name}
use Rattle.draw_list.proofs.blocks.blocks_of.Goals as goal

pub loop-name-init : goal.loop-name-init
loop-name-init c =
    let blocks : c.new-blocks.result.items
    ++ flat_map (named_of c.args.cell.now c.args.table.now c.args.settings.now) c.into_iter-name-iterator.result
    ≡ named_blocks_in c.args.cell.now c.args.table.now c.args.settings.now = search rules in
    (blocks, c.nothing-known.ensures c.args.cell.now c.args.settings.now)

pub returns-clause-each : goal.returns-clause-each
returns-clause-each c =
    λ name block. made_by_name c.args.cell.now c.args.table.now c.args.settings.now name block _ (search rules)

use Rattle.std.proofs.Common.{sym, ◌∙◌}
use Rattle.std.specs.FinMap as finite
use Rattle.chart_model.specs.Names.{name_cmp}
use Rattle.chart_model.proofs.PageBlocks.{entry-present, entry-absent}
use Rattle.spatial_grid.proofs.table.find.Goals as goal

pub returns-in-Ok : goal.returns-in-Ok
returns-in-Ok g c =
    sym (entry-present c.args.entries.now c.args.name c.requires c.in-Ok.place c.index-entries-place.result c.in-Ok.ensures.bound c.in-Ok.ensures.found)
    ∙ finite.get-from_sorted name_cmp c.args.entries.now c.args.name c.requires

pub returns-in-Err : goal.returns-in-Err
returns-in-Err g c =
    sym (entry-absent c.args.entries.now c.args.name c.requires c.in-Err.field-0 c.in-Err.ensures.bound c.in-Err.ensures.parted)
    ∙ finite.get-from_sorted name_cmp c.args.entries.now c.args.name c.requires

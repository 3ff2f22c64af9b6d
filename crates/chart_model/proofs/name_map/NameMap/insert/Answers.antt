use Rattle.std.proofs.Common.{sym, ◌∙◌}
use Rattle.std.specs.FinMap as map
use Rattle.chart_model.proofs.Names.{name_cmp-total}
use Rattle.chart_model.proofs.name_map.NameMap.insert.Goals as goal

pub insert_counted-requires : goal.insert_counted-requires
insert_counted-requires g c = c.in_ok-count.ensures ∙ sym (map.len-insert name_cmp-total _ c.args.name c.args.value)

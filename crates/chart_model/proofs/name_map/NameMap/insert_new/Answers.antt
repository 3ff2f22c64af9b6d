use Rattle.std.proofs.Common.{◌+◌, Option, cond, ap, sym, ◌∙◌}
use Rattle.std.specs.Option.{is_some}
use Rattle.std.specs.FinMap as map
use Rattle.chart_model.proofs.Names.{name_cmp-total}
use Rattle.chart_model.proofs.name_map.NameMap.insert_new.Goals as goal

pub insert_counted-requires : goal.insert_counted-requires
insert_counted-requires g c =
    c.in_ok-count.ensures
    ∙ sym (map.len-insert name_cmp-total _ c.args.name c.args.value ∙ ap (λ (o : Option _). cond (is_some o) (map.len c.args.self.now) (map.len c.args.self.now + 1)) c.requires.absent)

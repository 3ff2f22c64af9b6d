use Rattle.std.proofs.Common.{ap, ◌∙◌}
use Rattle.chart_model.specs.Shared.{values_behind}
use Rattle.chart_model.proofs.PageNames.{page_cmp-total}
use Rattle.chart_model.proofs.SharedTrees.{entries-values}
use Rattle.chart_model.proofs.page_map.PageMap.iter.Goals as goal

pub returns : goal.returns
returns g c =
    ap values_behind c.iter.ensures.rest
    ∙ entries-values page_cmp-total _ _ c.iter.ensures.ordered c.self.view_is

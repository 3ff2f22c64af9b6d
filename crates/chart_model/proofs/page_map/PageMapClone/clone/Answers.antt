use Rattle.std.proofs.Common.{ap, ◌∙◌}
use Rattle.std.specs.FinMap as map
use Rattle.chart_model.specs.Pages.{page_cmp}
use Rattle.chart_model.proofs.SharedTrees.{values-clones}
use Rattle.chart_model.proofs.page_map.PageMapClone.clone.Goals as goal

pub returns : goal.returns
returns g c = record {
  cases =
      ap (map.from_entries {R = page_cmp}) (values-clones _ _ c.in_ok-clone.ensures.cases) ∙ c.self.view_is;
}

use Rattle.std.proofs.Common.{ap, ◌∙◌}
use Rattle.std.specs.FinMap.{remove}
use Rattle.chart_model.proofs.PageNames.{page_cmp-total, page_cmp-IsAntisymmetric}
use Rattle.chart_model.proofs.SharedTrees.{remove-values}
use Rattle.chart_model.proofs.page_map.PageMap.remove.Goals as goal

pub returns : goal.returns
returns g c =
    remove-values page_cmp-total page_cmp-IsAntisymmetric _ _ c.args.page c.remove.ensures.updates.0
    ∙ ap (λ m. remove m c.args.page) c.self.view_is

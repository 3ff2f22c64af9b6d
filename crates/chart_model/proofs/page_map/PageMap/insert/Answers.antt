use Rattle.std.proofs.Common.{◌∙◌}
use Rattle.std.specs.FinMap.{insert}
use Rattle.chart_model.proofs.PageNames.{page_cmp-total, page_cmp-IsAntisymmetric}
use Rattle.chart_model.proofs.SharedTrees.{insert-values}
use Rattle.chart_model.proofs.page_map.PageMap.insert.Goals as goal

pub returns-in-Ok-clause-ok : goal.returns-in-Ok-clause-ok
returns-in-Ok-clause-ok g c =
    insert-values page_cmp-total page_cmp-IsAntisymmetric _ _ c.args.page c.in_ok-shared.shared
    c.in-Ok.ensures.updates.0
    ∙ (λ i. insert (c.self.view_is i) c.args.page (c.in_ok-shared.ensures.ok i))

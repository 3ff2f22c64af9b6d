use Rattle.std.proofs.Common.{ap, ◌∙◌}
use Rattle.std.specs.FinMap.{insert}
use Rattle.chart_model.proofs.Trees.{insert-tree}
use Rattle.panel_port.proofs.PanelKeys.{panel_key_cmp-total, panel_key_cmp-IsAntisymmetric}
use Rattle.panel_port.proofs.shown_blocks.ShownBlocks.insert.Goals as goal

pub returns-in-Ok-clause-ok : goal.returns-in-Ok-clause-ok
returns-in-Ok-clause-ok c =
    insert-tree panel_key_cmp-total panel_key_cmp-IsAntisymmetric _ _ _ _ c.in-Ok.ensures.updates.0
    ∙ ap (λ m. insert m c.args.key c.args.block) c.self.view_is

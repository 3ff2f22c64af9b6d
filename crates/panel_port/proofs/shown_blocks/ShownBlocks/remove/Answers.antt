use Rattle.std.proofs.Common.{ap, ◌∙◌}
use Rattle.std.specs.FinMap.{remove}
use Rattle.chart_model.proofs.Trees.{get-seen, remove-tree}
use Rattle.panel_port.proofs.PanelKeys.{panel_key_cmp-total, panel_key_cmp-IsAntisymmetric}
use Rattle.panel_port.proofs.shown_blocks.ShownBlocks.remove.Goals as goal

pub returns-clause-block : goal.returns-clause-block
returns-clause-block c = c.remove.ensures.value ∙ get-seen panel_key_cmp-total _ _ _ c.self.view_is

pub returns-clause-map : goal.returns-clause-map
returns-clause-map c =
    remove-tree panel_key_cmp-total panel_key_cmp-IsAntisymmetric _ _ _ c.remove.ensures.updates.0
    ∙ ap (λ m. remove m c.args.key) c.self.view_is

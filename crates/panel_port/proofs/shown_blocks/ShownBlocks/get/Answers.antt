use Rattle.std.proofs.Common.{◌∙◌}
use Rattle.chart_model.proofs.Trees.{get-seen}
use Rattle.panel_port.proofs.PanelKeys.{panel_key_cmp-total}
use Rattle.panel_port.proofs.shown_blocks.ShownBlocks.get.Goals as goal

pub returns : goal.returns
returns c = c.get.ensures.value ∙ get-seen panel_key_cmp-total _ _ _ c.self.view_is

use Rattle.std.proofs.Common.{◌∙◌}
use Rattle.chart_model.proofs.Trees.{len-seen}
use Rattle.panel_port.proofs.PanelKeys.{panel_key_cmp-total}
use Rattle.panel_port.proofs.shown_blocks.ShownBlocks.len.Goals as goal

pub returns : goal.returns
returns c = c.len.ensures.len ∙ len-seen panel_key_cmp-total _ _ c.len.ensures.ordered c.self.view_is

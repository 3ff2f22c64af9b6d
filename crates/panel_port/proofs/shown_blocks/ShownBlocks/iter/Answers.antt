use Rattle.std.proofs.Common.{ap, sym, ◌∙◌}
use Rattle.std.specs.FinMap.{entries}
use Rattle.chart_model.proofs.Trees.{entries-tree}
use Rattle.panel_port.proofs.PanelKeys.{panel_key_cmp-total}
use Rattle.panel_port.proofs.shown_blocks.ShownBlocks.iter.Goals as goal

pub returns-clause-entries : goal.returns-clause-entries
returns-clause-entries c =
    c.iter.ensures.rest ∙ sym (entries-tree panel_key_cmp-total _ c.iter.ensures.ordered) ∙ ap entries c.self.view_is

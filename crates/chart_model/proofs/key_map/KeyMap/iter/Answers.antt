use Rattle.std.proofs.Common.{ap, sym, ◌∙◌}
use Rattle.std.specs.FinMap.{entries}
use Rattle.chart_model.proofs.Keys.{key_cmp-total}
use Rattle.chart_model.proofs.Trees.{entries-tree}
use Rattle.chart_model.proofs.key_map.KeyMap.iter.Goals as goal

pub returns-clause-entries : goal.returns-clause-entries
returns-clause-entries g c =
    c.iter.ensures.rest ∙ sym (entries-tree key_cmp-total _ c.iter.ensures.ordered) ∙ ap entries c.self.view_is

use Rattle.std.proofs.Common.{◌∙◌}
use Rattle.chart_model.proofs.Keys.{key_cmp-total}
use Rattle.chart_model.proofs.Trees.{len-seen}
use Rattle.chart_model.proofs.key_map.KeyMap.len.Goals as goal

pub returns : goal.returns
returns g c = c.len.ensures.len ∙ len-seen key_cmp-total _ _ c.len.ensures.ordered c.self.view_is

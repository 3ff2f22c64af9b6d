use Rattle.std.proofs.Common.{◌∙◌}
use Rattle.chart_model.proofs.Keys.{key_cmp-total}
use Rattle.chart_model.proofs.Trees.{get-seen}
use Rattle.chart_model.proofs.key_map.KeyMap.get.Goals as goal

pub returns : goal.returns
returns g c = c.get.ensures.value ∙ get-seen key_cmp-total _ _ _ c.self.view_is

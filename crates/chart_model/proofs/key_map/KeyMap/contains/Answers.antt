use Rattle.std.proofs.Common.{ap, ◌∙◌}
use Rattle.std.specs.Option.{is_some}
use Rattle.chart_model.proofs.Keys.{key_cmp-total}
use Rattle.chart_model.proofs.Trees.{get-seen}
use Rattle.chart_model.proofs.key_map.KeyMap.contains.Goals as goal

pub returns : goal.returns
returns g c = c.contains_key.ensures ∙ ap is_some (get-seen key_cmp-total _ _ _ c.self.view_is)

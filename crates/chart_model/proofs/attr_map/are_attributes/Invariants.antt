use Rattle.std.proofs.Common.{◌≡◌, drop}
use Rattle.chart_model.specs.Attrs.{are_attributes}
use Rattle.chart_model.proofs.attr_map.are_attributes.Given as goal

abbrev pub invariant-loop-setting : goal.invariant-loop-setting
invariant-loop-setting l = are_attributes l.lowest (drop l.setting-index l.settings) ≡ are_attributes 0 l.settings

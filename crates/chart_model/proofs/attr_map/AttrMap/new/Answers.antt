use Rattle.std.proofs.Common.{ap, ◌∙◌}
use Rattle.chart_model.specs.Attrs.{attrs_of}
use Rattle.chart_model.proofs.AttrMaps.{attrs-empty}
use Rattle.chart_model.proofs.attr_map.AttrMap.new.Goals as goal

pub returns : goal.returns
returns c = ap attrs_of c.new.ensures.items ∙ attrs-empty

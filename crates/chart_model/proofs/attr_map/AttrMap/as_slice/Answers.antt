use Rattle.std.proofs.Common.{ap, ◌∙◌, sym}
use Rattle.std.specs.Ordering.{nat_cmp}
use Rattle.std.specs.FinMap as map
use Rattle.chart_model.specs.Attrs.{texts_by_code}
use Rattle.chart_model.proofs.attr_map.AttrMap.as_slice.Goals as goal

pub returns : goal.returns
returns c =
    ap texts_by_code c.as_slice.ensures.value
    ∙ sym (map.entries-from_sorted nat_cmp _ c.self.invariant)
    ∙ ap map.entries c.self.view_is

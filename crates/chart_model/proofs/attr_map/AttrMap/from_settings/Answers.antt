use Rattle.std.proofs.Common.{T, ap, sym, subst, ◌∙◌}
use Rattle.chart_model.specs.Attrs.{are_attributes}
use Rattle.chart_model.proofs.SetOrders.{attributes-rise, set-attributes}
use Rattle.chart_model.proofs.attr_map.AttrMap.from_settings.Goals as goal

pub invariant_of-result : goal.invariant_of-result
invariant_of-result c =
    attributes-rise 0 c.args.settings.items
    (subst T (sym c.if-are_attributes.true ∙ c.are_attributes.ensures ∙ ap (are_attributes 0) c.as_slice.ensures.value) tt)

pub returns-then-are_attributes : goal.returns-then-are_attributes
returns-then-are_attributes c =
    set-attributes c.args.settings.items
    (subst T (sym c.if-are_attributes.true ∙ c.are_attributes.ensures ∙ ap (are_attributes 0) c.as_slice.ensures.value) tt)

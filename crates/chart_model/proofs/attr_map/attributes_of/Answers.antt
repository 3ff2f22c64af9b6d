use Rattle.std.proofs.Common.{ap, ◌∙◌, rules}
use Rattle.std.specs.List.Sorted.{IsStableByKey}
use Rattle.std.specs.Ordering.{nat_cmp}
use Rattle.std.specs.FinMap as map
use Rattle.std.proofs.lemmas.List.Sorted.{answers_always}
use Rattle.chart_model.specs.Attrs.{attrs_of, set_attrs}
use Rattle.chart_model.proofs.AttrMaps.{attrs-empty}
use Rattle.chart_model.proofs.SetOrders.{set-sorted}
use Rattle.chart_model.proofs.attr_map.attributes_of.Goals as goal

pub returns : goal.returns
returns c =
    let sorted = c.sort_by_key.new.self.items in
    let stable : IsStableByKey (λ attr. attr.code) nat_cmp c.args.settings.items sorted = c.sort_by_key.ensures.stable (λ attr. attr.code) (answers_always _ _ _ (λ f a r h called. search rules)) in
    c.set_each.ensures.map
    ∙ ap (λ attrs. set_attrs (attrs_of attrs) sorted) c.in_ok-attrs.ensures.items
    ∙ ap (λ m. set_attrs m sorted) attrs-empty
    ∙ set-sorted map.empty c.args.settings.items sorted stable

use Rattle.std.proofs.Common.{ap, ◌∙◌, rules}
use Rattle.std.specs.List.Sorted.{IsStableByKey}
use Rattle.std.specs.Ordering.{nat_cmp}
use Rattle.std.proofs.lemmas.List.Sorted.{answers_always}
use Rattle.chart_model.specs.Attrs.{attrs_of, attrs_after, set_attrs}
use Rattle.chart_model.proofs.SetOrders.{put-alone, set-sorted}
use Rattle.chart_model.proofs.attr_map.AttrMap.set_many.Goals as goal

pub returns-clause-ok : goal.returns-clause-ok
returns-clause-ok c =
    let kept = c.self.inside.attrs.items in
    let sorted = c.sort_by_key.new.self.items in
    let given-is = c.in_ok-given.ensures.items_if_clones_equal (λ x y e. e) in
    let stable : IsStableByKey (λ attr. attr.code) nat_cmp c.in_ok-given.given.items sorted = c.sort_by_key.ensures.stable (λ attr. attr.code) (answers_always _ _ _ (λ f a r h called. search rules)) in
    c.merge.ensures.map
    ∙ (λ i.
    attrs_after (attrs_of (c.in_ok-attrs.ensures.items i))
    ((c.from.ensures.0 ∙ ap (λ v. v.items) c.replace-kept.ensures.value) i) (c.from-2.ensures.0 i))
    ∙ ap (λ m. set_attrs m sorted) (put-alone kept c.self.invariant)
    ∙ set-sorted (attrs_of kept) c.in_ok-given.given.items sorted stable
    ∙ (λ i. set_attrs (c.self.view_is i) (given-is i))

use Rattle.std.proofs.Common.{◌≡◌, ap, ◌∙◌}
use Rattle.chart_model.proofs.PageBlocks.{page_of_entries, clones-rise, clones-equal}
use Rattle.chart_model.proofs.page.PageClone.clone.Goals as goal

pub invariant_of-result : goal.invariant_of-result
invariant_of-result g c =
    clones-rise (λ x y. y ≡ x) g.V.Clone.is_clone (λ x y e. e) c.self.inside.entries.items c.in_ok-clone.field-0.items c.in_ok-clone.ensures.cases.0 c.self.invariant

pub returns : goal.returns
returns g c = record {
  cases = λ exact.
      ap page_of_entries (clones-equal (λ x y. y ≡ x) g.V.Clone.is_clone (λ x y e. e) exact c.self.inside.entries.items c.in_ok-clone.field-0.items c.in_ok-clone.ensures.cases.0)
      ∙ c.self.view_is;
}

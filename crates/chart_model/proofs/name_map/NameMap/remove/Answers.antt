use Rattle.std.proofs.Common.{◌≤◌, ◌-◌, ap, sym, ◌∙◌, subst}
use Rattle.std.specs.FinMap as map
use Rattle.chart_model.proofs.Maps.{remove-absent}
use Rattle.chart_model.proofs.Names.{name_cmp-total, name_cmp-IsAntisymmetric}
use Rattle.chart_model.proofs.Outcomes.{none-from}
use Rattle.chart_model.proofs.Pages.{some-counted, one-less}
use Rattle.chart_model.proofs.name_map.NameMap.remove.Goals as goal

pub overflow_sub-self : goal.overflow_sub-self
overflow_sub-self g c =
    let counted = c.self.invariant.counted ∙ ap map.len c.self.view_is in
    subst (λ n. 1 ≤ n) (sym counted) (some-counted c.args.self.now c.args.name (sym c.contains.ensures ∙ c.if-contains.true))

pub invariant_of-self-then-contains : goal.invariant_of-self-then-contains
invariant_of-self-then-contains g c =
    let there = ap (λ m. map.contains_key m c.args.name) c.self.view_is ∙ sym c.contains.ensures ∙ c.if-contains.true in
    record {
      each = c.in_ok-take_off_page.ensures.paged;
      counted = ap (λ n. n - 1) c.self.invariant.counted ∙ sym (ap map.len c.in_ok-take_off_page.ensures.ok ∙ one-less _ c.args.name there);
    }

pub returns-else-contains-clause-ok : goal.returns-else-contains-clause-ok
returns-else-contains-clause-ok g c =
    sym (remove-absent name_cmp-total name_cmp-IsAntisymmetric c.args.self.now c.args.name (none-from _ (sym c.contains.ensures ∙ c.if-contains.false)))

use Rattle.std.proofs.Common.{◌==◌, T, length, ap, sym, subst, ◌∙◌}
use Rattle.std.specs.FinMap as map
use Rattle.chart_model.specs.Pages.{AreFull}
use Rattle.chart_model.specs.Shared.{values_behind}
use Rattle.chart_model.proofs.name_iter.NameIterIterator.next.Goals as goal
use Rattle.chart_model.proofs.name_iter.NameIterIterator.next.Goals.{then-is_empty+in_ok-page, else-is_empty}

-- no page that is left is empty, so there is a first record
pub returns-in_err-first-clause-steps : goal.returns-in_err-first-clause-steps
returns-in_err-first-clause-steps g c =
    elim c.if-is_empty.branch [
      | then-is_empty+in_ok-page w ↦
          let empty = sym (ap (λ inside. length inside.records.now) w.self-inside-is) ∙ c.in_err-first.ensures.cases in
          let page = map.len-entries w.in_ok-page.page.now.value ∙ ap length (sym (w.as_slice-self-inside.ensures ∙ ap map.entries w.as_ref.ensures)) in
          absurd
          ((subst (λ es. AreFull (values_behind es)) w.in_ok-page.ensures.steps c.self.invariant).0 (page ∙ empty))
      | else-is_empty w ↦
          let empty = sym (ap (λ inside. length inside.records.now) w.self-inside-is) ∙ c.in_err-first.ensures.cases in
          absurd (subst T (sym (w.if-is_empty.ensures ∙ ap (λ n. n == 0) empty)) tt)
    ]

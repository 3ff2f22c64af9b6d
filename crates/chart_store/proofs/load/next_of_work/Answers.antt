-- There is no room for the cell, or the file follows.
use Rattle.std.proofs.Common.{◌≡◌, ◌∙◌, IfOk, List, ℕ, Option, Result, sym, ap, subst}
use Rattle.std.specs.FinMap as map
use Rattle.chart_model.specs.Answers.{or_fault_as}
use Rattle.chart_model.specs.declared.dataset.Header.{Header}
use Rattle.chart_model.specs.declared.state.Held.{Held}
use Rattle.update_sequence.specs.Judged.{judged}
use Rattle.chart_store.specs.declared.fault.TakeFault.TheVariants.{Refused}
use Rattle.chart_store.specs.declared.refusal.Refusal.{Refusal}
use Rattle.chart_store.specs.Loaded.{Outcome, held_after, held_of, is_full_for}
use Rattle.chart_store.proofs.Stages.{gives-next, loaded-full}
use Rattle.chart_store.proofs.Stepping.{key-is}
use Rattle.chart_store.proofs.load.next_of_work.Goals as goal

pub returns-then-is_full_for-clause-after : goal.returns-then-is_full_for-clause-after
returns-then-is_full_for-clause-after c = λ differs.
    let is = c.requires.is in
    let live = c.args.live.now in
    let keyed = ap (λ (h : Header). h.key) is.header in
    let judges = ap (λ (h : Option Held). judged h is.dataset)
    (ap (λ (k : List ℕ). held_of (map.get live.cells k)) (sym (key-is c.args.file is.dataset is.reads))
    ∙ c.requires.before) ∙ is.judges in
    ap (λ (r : Result Outcome Refusal). or_fault_as Refused r)
    (loaded-full live c.args.file is.dataset c.args.work.effect is.short is.reads judges
    (sym (c.if-is_full_for.ensures ∙ ap (is_full_for live.cells) (c.key.ensures ∙ keyed))))

pub returns-clause-after : goal.returns-clause-after
returns-clause-after c =
    let is = c.requires.is in
    let live = c.args.live.now in
    let keyed = ap (λ (h : Header). h.key) is.header in
    let judges = ap (λ (h : Option Held). judged h is.dataset)
    (ap (λ (k : List ℕ). held_of (map.get live.cells k)) (sym (key-is c.args.file is.dataset is.reads))
    ∙ c.requires.before) ∙ is.judges in
    gives-next live c.args.file is.dataset c.args.work.effect is.short is.reads judges c.next_by_effect.result
    (sym (c.if-is_full_for.ensures ∙ ap (is_full_for live.cells) (c.key.ensures ∙ keyed)))
    (c.next_by_effect.ensures.after is.dataset is.reads)
    (subst (λ (k : List ℕ). IfOk c.next_by_effect.result (λ next. next.key ≡ k)) keyed c.next_by_effect.ensures.key)
    (subst (λ (h : Header). IfOk c.next_by_effect.result (λ next.
    next.held ≡ held_after (map.get live.cells h.key) c.args.work.effect h)) is.header c.next_by_effect.ensures.held)

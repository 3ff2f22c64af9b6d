use Rattle.std.proofs.Common.{◌≡◌, ◌≢◌, ◌+◌, false, [], Result, Ok, Err, Vec, Global, refl, sym, ◌∙◌, ap, subst}
use Rattle.std.specs.Result.{OnOk, is_err}
use Rattle.std.proofs.lemmas.Result.{err_from_is_err_and}
use Rattle.chart_model.specs.Change.{Change}
use Rattle.chart_model.specs.Memory.{Fails}
use Rattle.chart_model.specs.declared.name.Name.{Name}
use Rattle.update_apply.specs.Fault.{held_under}
use Rattle.update_apply.specs.Moves.{cost_of}
use Rattle.update_sequence.specs.Answers.{fault_of_change}
use Rattle.update_sequence.specs.Built.{folded}
use Rattle.update_sequence.specs.Draft.{Advances, DraftValue}
use Rattle.update_sequence.specs.declared.fault.BuildFault.TheVariants as of_build
use Rattle.update_sequence.proofs.Asked.{enough-still}
use Rattle.update_sequence.proofs.Drafts.{advances-one, begins-with, first-item, first-passes, refused-one}
use Rattle.update_sequence.proofs.draft.Draft.make_next.Goals as goal
use Rattle.std.specs.Prelude.{take}

on-ok : {A E P : Type 0} (r : Result A E) → OnOk r P → is_err r ≡ false → P
on-ok (Ok x) h e = h
on-ok (Err x) h e = absurd cc

pub returns-in_err-judge_change-clause-refused : goal.returns-in_err-judge_change-clause-refused
returns-in_err-judge_change-clause-refused c =
    let seen = c.self.inside in
    let p = err_from_is_err_and c.from_residual.result c.from_residual.ensures.1 in
    let some : seen.rest.items ≢ [] = λ e. c.requires (sym (ap (λ (d : DraftValue). d.rest) c.self.view_is) ∙ e) in
    rw (p.1, p.2) (subst (λ (d : DraftValue).
    Fails of_build.NoMemory (fault_of_change c.in_err-judge_change.field-0.0) (folded d.cell (take 1 d.rest)))
    c.self.view_is
    (refused-one seen.chart seen.rest.items _ c.in-Some.change.now c.in_err-judge_change.field-0.0
    (begins-with seen.rest.items c.in-Some.change.now some c.in-Some.ensures.lookup)
    c.in_err-judge_change.ensures.fault))

pub make_change-requires : goal.make_change-requires
make_change-requires c =
    sym (first-passes c.self.inside.chart c.self.inside.rest.items c.pop_front.new.self.items c.in-Some.change.now
    c.in-Some-pop_front.change c.in-Some.ensures.lookup c.in-Some-pop_front.ensures.items
    c.in_ok-judge_change.ensures.passes)

pub invariant_of-self-else-is_err : goal.invariant_of-self-else-is_err
invariant_of-self-else-is_err c =
    let seen = c.self.inside in
    let change = c.in-Some-pop_front.change in
    enough-still (λ (names : Vec Name Global). names.items) seen.asked seen.chart c.make_change.new.cell
    seen.rest.items c.pop_front.new.self.items change c.in-Some-pop_front.ensures.items
    (first-passes seen.chart seen.rest.items c.pop_front.new.self.items c.in-Some.change.now change
    c.in-Some.ensures.lookup c.in-Some-pop_front.ensures.items c.in_ok-judge_change.ensures.passes)
    (on-ok c.make_change.result c.make_change.ensures.ok (sym c.if-is_err.ensures.value)) c.self.invariant

pub returns-clause-made : goal.returns-clause-made
returns-clause-made c =
    let seen = c.self.inside in
    let change = c.in-Some-pop_front.change in
    let rest = c.pop_front.new.self.items in
    let there = c.in-Some.ensures.lookup in
    let is = c.in-Some-pop_front.ensures.items in
    let before : DraftValue = record { cell = seen.chart; rest = seen.rest.items; moves = seen.moves } in
    let after : DraftValue =
    record { cell = c.make_change.new.cell; rest = rest; moves = c.judge_change.new.moves } in
    subst (λ (d : DraftValue). Advances d after 1) c.self.view_is
    (advances-one before after change rest is
    (first-passes seen.chart seen.rest.items rest c.in-Some.change.now change there is
    c.in_ok-judge_change.ensures.passes)
    (on-ok c.make_change.result c.make_change.ensures.ok (sym c.if-is_err.ensures.value)) refl
    (subst (λ (x : Change). seen.moves ≡ c.judge_change.new.moves + cost_of (held_under seen.chart x.target) x)
    (first-item seen.rest.items rest c.in-Some.change.now change there is) c.in_ok-judge_change.ensures.spent))

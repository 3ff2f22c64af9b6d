-- Some changes more, or those before the first that can't be made.
use Rattle.std.proofs.Common.{◌≡◌, rules, length, Some, Ok, Err, ap, subst, arith}
use Rattle.std.proofs.lemmas.Grind.{common_steps}
use Rattle.update_sequence.specs.declared.effect.Effect.TheVariants.{Cancel}
use Rattle.chart_store.specs.Staging.{StagedValue, step_of}
use Rattle.chart_store.proofs.Stepping.{cancels-none, draft-of, left-within, step-fails, step-made, step-none, step-stops, work-more}
use Rattle.chart_store.proofs.staged.Staged.step.Goals as goal

pub returns-then-eq-clause-steps : goal.returns-then-eq-clause-steps
returns-then-eq-clause-steps c =
    let work = c.self.inside.work in
    let is = c.self.invariant in
    let cancels : work.effect ≡ Cancel = first_of (search rules, grind common_steps) in
    let none = cancels-none work c.self.inside.file is
    (c.files_are_data_sets.ensures.kept c.self.inside.file is.dataset is.reads) cancels in
    let empty = ap length none in
    let now : StagedValue = record { file = c.self.inside.file; held = work.before; chart = work.chart; done = work.done } in
    subst (λ (s : StagedValue). step_of c.args.n s ≡ Ok now) c.self.view_is
    (step-none c.changes_are_made_in_turn.ensures.turn c.drafts_advance.ensures.turn c.self.inside.file work.before
    work.chart is.dataset is.reads c.changes_are_made_in_turn.ensures.none work.done c.args.n none
    (omega (arith, empty, is.within, is.total)))

pub make-requires : goal.make-requires
make-requires c =
    let work = c.self.inside.work in
    let is = c.self.invariant in
    let found : work.begun.draft ≡ Some c.in-Some.draft = first_of (search rules, grind common_steps) in
    omega (
      arith,
      left-within work c.self.inside.file is c.in-Some.draft (draft-of work c.self.inside.file is c.in-Some.draft found),
      is.fits,
      is.total,
    )

pub invariant_of-self-in-Ok : goal.invariant_of-self-in-Ok
invariant_of-self-in-Ok c =
    let work = c.self.inside.work in
    let is = c.self.invariant in
    let found : work.begun.draft ≡ Some c.in-Some.draft = first_of (search rules, grind common_steps) in
    let of = draft-of work c.self.inside.file is c.in-Some.draft found in
    work-more c.drafts_advance.ensures.turn c.self.inside.file work is _ _ c.in-Some.draft c.make.new.draft of
    c.in-Ok.ensures.made c.in-Ok.ensures.counted

pub returns-in-Ok-clause-steps : goal.returns-in-Ok-clause-steps
returns-in-Ok-clause-steps c =
    let work = c.self.inside.work in
    let is = c.self.invariant in
    let found : work.begun.draft ≡ Some c.in-Some.draft = first_of (search rules, grind common_steps) in
    let of = draft-of work c.self.inside.file is c.in-Some.draft found in
    let now : StagedValue = record { file = c.self.inside.file; held = work.before; chart = work.chart; done = c.make.new.done } in
    subst (λ (s : StagedValue). step_of c.args.n s ≡ Ok now) c.self.view_is
    (step-made c.changes_are_made_in_turn.ensures.turn c.drafts_advance.ensures.turn c.self.inside.file work.before
    work.chart is.dataset is.reads work.done c.args.n c.make.new.done c.in-Some.draft c.make.new.draft of
    c.in-Ok.ensures.made c.in-Ok.ensures.counted)

pub invariant_of-self-in-Err-Refused : goal.invariant_of-self-in-Err-Refused
invariant_of-self-in-Err-Refused c =
    let work = c.self.inside.work in
    let is = c.self.invariant in
    let found : work.begun.draft ≡ Some c.in-Some.draft = first_of (search rules, grind common_steps) in
    let of = draft-of work c.self.inside.file is c.in-Some.draft found in
    let stops = c.in-Err-Refused.ensures.stopped c.in-Err-Refused.refusal c.in-Err-Refused.field-0-is in
    work-more c.drafts_advance.ensures.turn c.self.inside.file work is stops.made _ c.in-Some.draft c.make.new.draft of
    stops.stops.advances stops.counted

pub returns-in-Err-Refused-clause-steps : goal.returns-in-Err-Refused-clause-steps
returns-in-Err-Refused-clause-steps c =
    let work = c.self.inside.work in
    let is = c.self.invariant in
    let found : work.begun.draft ≡ Some c.in-Some.draft = first_of (search rules, grind common_steps) in
    let of = draft-of work c.self.inside.file is c.in-Some.draft found in
    let stops = c.in-Err-Refused.ensures.stopped c.in-Err-Refused.refusal c.in-Err-Refused.field-0-is in
    subst (λ (s : StagedValue). step_of c.args.n s ≡ Err c.in-Err-Refused.refusal) c.self.view_is
    (step-fails c.changes_are_made_in_turn.ensures.turn c.drafts_advance.ensures.turn c.self.inside.file work.before
    work.chart is.dataset is.reads work.done stops.made c.args.n stops.fault c.in-Err-Refused.refusal c.in-Some.draft
    c.make.new.draft of stops.stops stops.tells)

pub returns-in-Err-Refused-clause-stopped : goal.returns-in-Err-Refused-clause-stopped
returns-in-Err-Refused-clause-stopped c =
    let work = c.self.inside.work in
    let is = c.self.invariant in
    let found : work.begun.draft ≡ Some c.in-Some.draft = first_of (search rules, grind common_steps) in
    let of = draft-of work c.self.inside.file is c.in-Some.draft found in
    let stops = c.in-Err-Refused.ensures.stopped c.in-Err-Refused.refusal c.in-Err-Refused.field-0-is in
    step-stops c.changes_are_made_in_turn.ensures.turn c.drafts_advance.ensures.turn c.self.inside.file work.before
    work.chart is.dataset is.reads work.done stops.made c.args.n c.make.new.done stops.fault c.in-Some.draft
    c.make.new.draft of stops.stops stops.counted

use Rattle.std.proofs.Common.{◌≡◌, Option, Result, Ok, Err, refl, sym, ap, ◌∙◌, subst, arith, rules}
use Rattle.std.proofs.lemmas.Grind.{common_steps}
use Rattle.std.proofs.lemmas.Result.{err_from_is_err_and}
use Rattle.std.specs.FinMap as map
use Rattle.chart_difference.specs.Difference.{AreChanged}
use Rattle.chart_model.specs.State.{StateValue}
use Rattle.chart_model.specs.declared.state.Holding.{Holding}
use Rattle.chart_ports.specs.Disk.{LeavesNoMoreOfOthers, SameOthers}
use Rattle.chart_ports.specs.Moments.{LeavesOnly, MayBeLeft, images_of}
use Rattle.command_codec.specs.Spelling.{spelling}
use Rattle.bank_pair.specs.Handle.{value_of}
use Rattle.bank_pair.specs.Pair.{IsPairInStep, PairValue}
use Rattle.chart_store.specs.declared.submit_fault.SubmitFault.{SubmitFault}
use Rattle.chart_store.specs.declared.refusal.Refusal.{Refusal}
use Rattle.chart_store.specs.Images.{StandFor}
use Rattle.chart_store.specs.Live.{state_or}
use Rattle.chart_store.specs.Loaded.{Outcome}
use Rattle.chart_store.specs.Next.{outcome_by}
use Rattle.chart_store.specs.Outcome.{accepted}
use Rattle.chart_store.specs.Store.{StandsForEither, count_of, is_sound, pair_of, room_of, save_of, state_of}
use Rattle.chart_store.specs.Submitted.{told}
use Rattle.chart_model.specs.Answers.{FailsBy}
use Rattle.chart_store.specs.Loaded.{chart_of}
use Rattle.chart_store.proofs.Holdings.{get-with}
use Rattle.chart_store.proofs.Submitting.{no-call, append-call, append-moments, kept-stands, kept-after, not-desk, kept-as}
use Rattle.chart_store.proofs.Submitting.{appending-fails, accepted-as}
use Rattle.chart_store.proofs.Submitting.{after-of, appended-within, not_full_done, passes-limit, room-more, same-lacks, same-tells}
use Rattle.chart_store.proofs.Submitting.{appended-gate, appended-save, desk-kept, desk-stood, parts-same}
use Rattle.chart_store.proofs.Submitting.{read-after, same-kept, save-more, stands-after}
use Rattle.chart_store.proofs.Saved.{same-left}
use Rattle.bank_journal.specs.declared.fault.AppendFault.TheVariants as appends
use Rattle.chart_store.proofs.store.Store.keep.Goals as goal

-- ---- where there is no room for its frame

pub returns-in_err-reserve-clause-unchanged : goal.returns-in_err-reserve-clause-unchanged
returns-in_err-reserve-clause-unchanged g c = λ _.
    let exit = c.from_residual in
    let p = err_from_is_err_and exit.result exit.ensures.1 in
    rw (p.1) (
      λ i. record {
        state = state_of c.args.self.now;
        pair = c.reserve.ensures.value i;
        count = count_of c.args.self.now;
        sound = is_sound c.args.self.now;
      },
      refl,
    )

pub returns-in_err-reserve-clause-kept : goal.returns-in_err-reserve-clause-kept
returns-in_err-reserve-clause-kept g c = λ tells _.
    same-kept _ _ c.args.self.now _ refl c.reserve.ensures.value (c.requires.kept tells)

pub returns-in_err-reserve-clause-stands : goal.returns-in_err-reserve-clause-stands
returns-in_err-reserve-clause-stands g c = λ tells stood _ images left.
    kept-stands _ _ c.args.self.now (c.requires.kept tells) stood images left

pub returns-in_err-reserve-clause-moments : goal.returns-in_err-reserve-clause-moments
returns-in_err-reserve-clause-moments g c = λ tells stood.
    no-call g.D.Desk.clock g.D.Desk.might c.args.desk.now _ _ _ c.args.self.now (c.requires.kept tells) stood
    (λ images bytes left. g.met.D.Desk.only_now c.args.desk.now images bytes tells left) _

-- ---- where there is none for its cell

pub returns-in_err-prepared-clause-unchanged : goal.returns-in_err-prepared-clause-unchanged
returns-in_err-prepared-clause-unchanged g c = λ _.
    let exit = c.from_residual-in_err-prepared in
    let p = err_from_is_err_and exit.result exit.ensures.1 in
    rw (p.1) (
      λ i. record {
        state = c.in_err-prepared.ensures.err i;
        pair = c.reserve.ensures.value i;
        count = count_of c.args.self.now;
        sound = is_sound c.args.self.now;
      },
      refl,
    )

pub returns-in_err-prepared-clause-kept : goal.returns-in_err-prepared-clause-kept
returns-in_err-prepared-clause-kept g c = λ tells _.
    same-kept _ _ c.args.self.now _ c.in_err-prepared.ensures.err c.reserve.ensures.value (c.requires.kept tells)

pub returns-in_err-prepared-clause-stands : goal.returns-in_err-prepared-clause-stands
returns-in_err-prepared-clause-stands g c = λ tells stood _ images left.
    subst (StandFor images) (sym c.in_err-prepared.ensures.err)
    (kept-stands _ _ c.args.self.now (c.requires.kept tells) stood images left)

pub returns-in_err-prepared-clause-stood : goal.returns-in_err-prepared-clause-stood
returns-in_err-prepared-clause-stood g c = λ tells stood _.
    subst (StandFor (images_of (g.D.Desk.contents c.args.desk.now))) (sym c.in_err-prepared.ensures.err) stood

pub returns-in_err-prepared-clause-moments : goal.returns-in_err-prepared-clause-moments
returns-in_err-prepared-clause-moments g c = λ tells stood.
    no-call g.D.Desk.clock g.D.Desk.might c.args.desk.now _ _ _ c.args.self.now (c.requires.kept tells) stood
    (λ images bytes left. g.met.D.Desk.only_now c.args.desk.now images bytes tells left) _

-- ---- where the record is not appended

pub returns-in-Err-clause-outcome : goal.returns-in-Err-clause-outcome
returns-in-Err-clause-outcome g c =
    let live = state_of c.args.self.now in
    let done = outcome_by live c.args.next in
    subst (λ (wanted : Result Outcome Refusal). FailsBy told c.from.result wanted)
    (sym (kept-as live c.requires.record.command (pair_of c.args.self.now) _ done c.requires.record.leaves
    c.requires.record.need))
    (subst (λ (fault : SubmitFault).
    FailsBy told fault (accepted live (room_of c.args.self.now) c.requires.record.command)) (sym c.from.ensures)
    (appending-fails live c.requires.record.command (pair_of c.args.self.now) done _ c.in-Err.fault c.append.result
    c.requires.record.leaves c.requires.record.need c.in-Err.is
    (same-tells c.append.result (pair_of c.args.self.now) (value_of c.reserve.new.self) _ c.reserve.ensures.value
    c.append.ensures.full)))

pub returns-in-Err-clause-unchanged : goal.returns-in-Err-clause-unchanged
returns-in-Err-clause-unchanged g c = λ no_desk.
    let over = passes-limit (pair_of c.args.self.now) _ c.in-Err.fault c.append.result c.in-Err.is
    (same-tells c.append.result (pair_of c.args.self.now) (value_of c.reserve.new.self) _ c.reserve.ensures.value
    c.append.ensures.full)
    (λ e. no_desk (ap Err (c.from.ensures ∙ e))) in
    let same = c.append.ensures.unchanged (same-lacks (pair_of c.args.self.now) (value_of c.reserve.new.self) _
    c.reserve.ensures.value over) in (
      parts-same _ _ _ _ _ _ _ _ (c.withdraw.ensures ∙ c.in_ok-prepared.ensures.withdrawn)
          (ap value_of same.0 ∙ c.reserve.ensures.value) refl (first_of (search rules, grind (arith, common_steps))),
      same.1,
    )

pub returns-in-Err-clause-kept : goal.returns-in-Err-clause-kept
returns-in-Err-clause-kept g c = λ tells no_desk.
    let over = passes-limit (pair_of c.args.self.now) _ c.in-Err.fault c.append.result c.in-Err.is
    (same-tells c.append.result (pair_of c.args.self.now) (value_of c.reserve.new.self) _ c.reserve.ensures.value
    c.append.ensures.full)
    (λ e. no_desk (ap Err (c.from.ensures ∙ e))) in
    let same = c.append.ensures.unchanged (same-lacks (pair_of c.args.self.now) (value_of c.reserve.new.self) _
    c.reserve.ensures.value over) in
    desk-kept g.D.Desk.contents g.D.Desk.may_leave c.args.desk.now c.append.new.desk c.args.self.now _ same.1
    (c.withdraw.ensures ∙ c.in_ok-prepared.ensures.withdrawn) (ap value_of same.0 ∙ c.reserve.ensures.value)
    (c.requires.kept tells)

pub returns-in-Err-clause-stands : goal.returns-in-Err-clause-stands
returns-in-Err-clause-stands g c = λ tells stood no_desk images left.
    let over = passes-limit (pair_of c.args.self.now) _ c.in-Err.fault c.append.result c.in-Err.is
    (same-tells c.append.result (pair_of c.args.self.now) (value_of c.reserve.new.self) _ c.reserve.ensures.value
    c.append.ensures.full)
    (λ e. no_desk (ap Err (c.from.ensures ∙ e))) in
    let same = c.append.ensures.unchanged (same-lacks (pair_of c.args.self.now) (value_of c.reserve.new.self) _
    c.reserve.ensures.value over) in
    subst (StandFor images) (sym (c.withdraw.ensures ∙ c.in_ok-prepared.ensures.withdrawn))
    (kept-stands _ _ c.args.self.now (c.requires.kept tells) stood images
    (subst (λ (desk : g.row.D.Denot). MayBeLeft (g.D.Desk.may_leave desk) images) same.1 left))

pub returns-in-Err-clause-stood : goal.returns-in-Err-clause-stood
returns-in-Err-clause-stood g c = λ tells stood no_desk.
    let over = passes-limit (pair_of c.args.self.now) _ c.in-Err.fault c.append.result c.in-Err.is
    (same-tells c.append.result (pair_of c.args.self.now) (value_of c.reserve.new.self) _ c.reserve.ensures.value
    c.append.ensures.full)
    (λ e. no_desk (ap Err (c.from.ensures ∙ e))) in
    let same = c.append.ensures.unchanged (same-lacks (pair_of c.args.self.now) (value_of c.reserve.new.self) _
    c.reserve.ensures.value over) in
    desk-stood g.D.Desk.contents c.args.desk.now c.append.new.desk _ _ same.1
    (c.withdraw.ensures ∙ c.in_ok-prepared.ensures.withdrawn) stood

pub returns-in-Err-clause-moments : goal.returns-in-Err-clause-moments
returns-in-Err-clause-moments g c = λ tells stood.
    let kept = c.requires.kept tells in
    subst (λ (wanted : Result Outcome Refusal). LeavesOnly g.D.Desk.clock g.D.Desk.might c.args.desk.now c.append.new.desk
    (StandsForEither (g.D.Desk.said c.args.desk.now) (state_of c.args.self.now)
    (state_or (state_of c.args.self.now) wanted)))
    (sym (kept-as (state_of c.args.self.now) c.requires.record.command (pair_of c.args.self.now) _ _
    c.requires.record.leaves c.requires.record.need))
    (append-moments g.D.Desk.clock g.D.Desk.might c.args.desk.now _ _ _ c.args.self.now kept stood c.requires.record.command
    (outcome_by (state_of c.args.self.now) c.args.next) _ c.in-Err.fault c.append.result
    c.append.new.desk c.requires.record.leaves c.requires.record.spelled c.requires.record.need c.in-Err.is
    (same-tells c.append.result (pair_of c.args.self.now) (value_of c.reserve.new.self) _ c.reserve.ensures.value
    c.append.ensures.full)
    (λ over. (c.append.ensures.unchanged (same-lacks (pair_of c.args.self.now) (value_of c.reserve.new.self) _
    c.reserve.ensures.value over)).1)
    (λ images bytes left. g.met.D.Desk.only_now c.args.desk.now images bytes tells left)
    (c.append.ensures.moments tells kept.content (spelling c.requires.record.command)
    (subst (λ (p : PairValue). IsPairInStep (g.D.Desk.contents c.args.desk.now) (g.D.Desk.may_leave c.args.desk.now) p
    kept.content) (sym c.reserve.ensures.value) kept.pair)
    c.requires.record.short c.requires.record.frames))

pub returns-in-Err-clause-others : goal.returns-in-Err-clause-others
returns-in-Err-clause-others g c = λ tells.
    subst (λ (p : PairValue). SameOthers p.file (g.D.Desk.contents c.args.desk.now) (g.D.Desk.contents c.append.new.desk))
    c.reserve.ensures.value (c.append.ensures.others tells)

pub returns-in-Err-clause-crash_others : goal.returns-in-Err-clause-crash_others
returns-in-Err-clause-crash_others g c = λ tells.
    subst (λ (p : PairValue).
    LeavesNoMoreOfOthers p.file (g.D.Desk.may_leave c.args.desk.now) (g.D.Desk.may_leave c.append.new.desk))
    c.reserve.ensures.value (c.append.ensures.crash_others tells)

pub invariant_of-self-in-Err : goal.invariant_of-self-in-Err
invariant_of-self-in-Err g c = record {
  left = λ sound.
      let other : ¬ (c.in-Err.fault ≡ appends.DeskFault) = first_of (search rules, grind common_steps) in
      let over = passes-limit (pair_of c.args.self.now) _ c.in-Err.fault c.append.result c.in-Err.is
      (same-tells c.append.result (pair_of c.args.self.now) (value_of c.reserve.new.self) _ c.reserve.ensures.value
      c.append.ensures.full) (not-desk c.in-Err.fault other) in
      let same = c.append.ensures.unchanged (same-lacks (pair_of c.args.self.now) (value_of c.reserve.new.self) _
      c.reserve.ensures.value over) in
      same-left (pair_of c.args.self.now) (value_of c.append.new.self) (ap value_of same.0 ∙ c.reserve.ensures.value)
      (c.args.self.now.left c.requires.sound);
}

-- ---- where it is

pub returns-clause-outcome : goal.returns-clause-outcome
returns-clause-outcome g c =
    let live = state_of c.args.self.now in
    let next = c.args.next in
    let leaves : c.finish-old.new.self ≡ (outcome_by live next).state = c.finish-old.ensures.state
    ∙ c.in_ok-prepared.ensures.finished in
    kept-as live c.requires.record.command (pair_of c.args.self.now) _ (outcome_by live next) c.requires.record.leaves
    c.requires.record.need
    ∙ accepted-as live c.requires.record.command (pair_of c.args.self.now) (outcome_by live next) c.requires.record.leaves
    (appended-within live c.requires.record.command (pair_of c.args.self.now) _ c.append.result c.requires.record.need
    (not_full_done c.append.result c.in_default.is) (same-tells c.append.result (pair_of c.args.self.now) (value_of c.reserve.new.self) _ c.reserve.ensures.value
    c.append.ensures.full))
    ∙ (λ i. Ok (record { key = next.key; held = next.held; state = sym leaves i }))

pub returns-clause-changed : goal.returns-clause-changed
returns-clause-changed g c =
    let live = state_of c.args.self.now in
    let next = c.args.next in
    let here =
    ap (λ (state : StateValue). map.get state.cells next.key) (c.finish-old.ensures.state
    ∙ c.in_ok-prepared.ensures.finished)
    ∙ get-with live.cells next.key next.holding in
    subst (λ (holding : Option Holding).
    AreChanged (chart_of (map.get live.cells next.key)) (chart_of holding) next.changed) (sym here)
    c.requires.named

pub returns-clause-room : goal.returns-clause-room
returns-clause-room g c =
    room-more (pair_of c.args.self.now) (value_of c.append.new.self) _ _ refl
    (appended-gate (pair_of c.args.self.now) (value_of c.reserve.new.self) (value_of c.append.new.self) _
    c.reserve.ensures.value c.in_default.ensures.gate)
    (appended-save (pair_of c.args.self.now) (value_of c.reserve.new.self) (value_of c.append.new.self) _
    c.reserve.ensures.value c.in_default.ensures.save)

pub returns-clause-save : goal.returns-clause-save
returns-clause-save g c =
    save-more (save_of c.args.self.now) (value_of c.append.new.self).save _
    (appended-save (pair_of c.args.self.now) (value_of c.reserve.new.self) (value_of c.append.new.self) _
    c.reserve.ensures.value c.in_default.ensures.save)

pub returns-clause-kept : goal.returns-clause-kept
returns-clause-kept g c = λ tells _.
    let kept = c.requires.kept tells in
    let done = outcome_by (state_of c.args.self.now) c.args.next in
    kept-after _ _ c.args.self.now kept c.requires.record.command done c.requires.record.leaves c.requires.record.spelled
    _ _ _ _ c.requires.record.frames c.requires.record.short
    (c.finish-old.ensures.state ∙ c.in_ok-prepared.ensures.finished)
    (appended-save (pair_of c.args.self.now) (value_of c.reserve.new.self) (value_of c.append.new.self) _
    c.reserve.ensures.value c.in_default.ensures.save)
    (c.in_default.ensures.appended tells kept.content (spelling c.requires.record.command)
    (subst (λ (p : PairValue). IsPairInStep (g.D.Desk.contents c.args.desk.now) (g.D.Desk.may_leave c.args.desk.now) p
    kept.content) (sym c.reserve.ensures.value) kept.pair)
    c.requires.record.short c.requires.record.frames)

pub returns-clause-stands : goal.returns-clause-stands
returns-clause-stands g c = λ tells stood no_desk images left.
    let kept = c.requires.kept tells in
    let done = outcome_by (state_of c.args.self.now) c.args.next in
    subst (StandFor images) (sym (c.finish-old.ensures.state ∙ c.in_ok-prepared.ensures.finished))
    (stands-after _ _ c.args.self.now kept c.requires.record.command done c.requires.record.leaves c.requires.record.spelled
    stood _ _ (value_of c.append.new.self)
    (c.in_default.ensures.appended tells kept.content (spelling c.requires.record.command)
    (subst (λ (p : PairValue). IsPairInStep (g.D.Desk.contents c.args.desk.now) (g.D.Desk.may_leave c.args.desk.now) p
    kept.content) (sym c.reserve.ensures.value) kept.pair)
    c.requires.record.short c.requires.record.frames) images left)

pub returns-clause-stood : goal.returns-clause-stood
returns-clause-stood g c = λ tells stood no_desk.
    let kept = c.requires.kept tells in
    let done = outcome_by (state_of c.args.self.now) c.args.next in
    subst (StandFor (images_of (g.D.Desk.contents c.append.new.desk)))
    (sym (c.finish-old.ensures.state ∙ c.in_ok-prepared.ensures.finished))
    (read-after _ _ c.args.self.now kept c.requires.record.command done c.requires.record.leaves c.requires.record.spelled
    stood _ _ (value_of c.append.new.self)
    (c.in_default.ensures.appended tells kept.content (spelling c.requires.record.command)
    (subst (λ (p : PairValue). IsPairInStep (g.D.Desk.contents c.args.desk.now) (g.D.Desk.may_leave c.args.desk.now) p
    kept.content) (sym c.reserve.ensures.value) kept.pair)
    c.requires.record.short c.requires.record.frames))

pub returns-clause-moments : goal.returns-clause-moments
returns-clause-moments g c = λ tells stood.
    let kept = c.requires.kept tells in
    let live = state_of c.args.self.now in
    let done = outcome_by live c.args.next in
    subst (λ (wanted : Result Outcome Refusal). LeavesOnly g.D.Desk.clock g.D.Desk.might c.args.desk.now c.append.new.desk
    (StandsForEither (g.D.Desk.said c.args.desk.now) (state_of c.args.self.now)
    (state_or (state_of c.args.self.now) wanted)))
    (sym (kept-as (state_of c.args.self.now) c.requires.record.command (pair_of c.args.self.now) _ _
    c.requires.record.leaves c.requires.record.need))
    (append-call g.D.Desk.clock g.D.Desk.might c.args.desk.now _ _ _ c.args.self.now kept stood c.requires.record.command done
    c.requires.record.leaves c.requires.record.spelled _
    (after-of live done _ (accepted-as live c.requires.record.command (pair_of c.args.self.now) done c.requires.record.leaves
    (appended-within live c.requires.record.command (pair_of c.args.self.now) _ c.append.result c.requires.record.need
    (not_full_done c.append.result c.in_default.is) (same-tells c.append.result (pair_of c.args.self.now) (value_of c.reserve.new.self) _ c.reserve.ensures.value
    c.append.ensures.full))))
    c.append.new.desk
    (c.append.ensures.moments tells kept.content (spelling c.requires.record.command)
    (subst (λ (p : PairValue). IsPairInStep (g.D.Desk.contents c.args.desk.now) (g.D.Desk.may_leave c.args.desk.now) p
    kept.content) (sym c.reserve.ensures.value) kept.pair)
    c.requires.record.short c.requires.record.frames))

pub returns-clause-others : goal.returns-clause-others
returns-clause-others g c = λ tells.
    subst (λ (p : PairValue). SameOthers p.file (g.D.Desk.contents c.args.desk.now) (g.D.Desk.contents c.append.new.desk))
    c.reserve.ensures.value (c.append.ensures.others tells)

pub returns-clause-crash_others : goal.returns-clause-crash_others
returns-clause-crash_others g c = λ tells.
    subst (λ (p : PairValue).
    LeavesNoMoreOfOthers p.file (g.D.Desk.may_leave c.args.desk.now) (g.D.Desk.may_leave c.append.new.desk))
    c.reserve.ensures.value (c.append.ensures.crash_others tells)

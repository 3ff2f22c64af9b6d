-- Files up to the first that has the number.
use Rattle.std.proofs.Common.{◌++◌, ◌∷◌, [], Some, Option, IfNone, IfSome, List, ℕ, sym, ◌∙◌, ap, subst, arith}
use Rattle.chart_model.specs.declared.state.Holding.{Holding}
use Rattle.update_sequence.specs.Sequence.{Follows, IsUpdateSequence}
use Rattle.chart_store.specs.Following.{IsKeptWith}
use Rattle.chart_store.specs.Loaded.{files_of}
use Rattle.chart_store.proofs.Following.{last-number}
use Rattle.chart_store.proofs.Keeping.{Sequences, kept-first, kept-none, records-within}
use Rattle.chart_store.proofs.rollback.kept_by.Goals as goal

pub returns-in_err-after-clause-at_most : goal.returns-in_err-after-clause-at_most
returns-in_err-after-clause-at_most g c =
    let below = rw c.as_slice-file-items.ensures at c.loop-file-test.true in
    let item = rw c.as_slice-file-items.ensures at c.file-item.is in
    omega (
      arith,
      c.kept_with.ensures.at_most,
      c.loop-file.invariant.steps,
      records-within c.args.files.now c.loop-file.file-index c.file-item.result below item,
    )

pub returns-in_default-clause-at_most : goal.returns-in_default-clause-at_most
returns-in_default-clause-at_most g c =
    let below = rw c.as_slice-file-items.ensures at c.loop-file-test.true in
    let item = rw c.as_slice-file-items.ensures at c.file-item.is in
    omega (
      arith,
      c.kept_with.ensures.at_most,
      c.loop-file.invariant.steps,
      records-within c.args.files.now c.loop-file.file-index c.file-item.result below item,
    )

pub returns-then-has_number-clause-at_most : goal.returns-then-has_number-clause-at_most
returns-then-has_number-clause-at_most g c =
    let below = rw c.as_slice-file-items.ensures at c.loop-file-test.true in
    let item = rw c.as_slice-file-items.ensures at c.file-item.is in
    omega (
      arith,
      c.kept_with.ensures.at_most,
      c.loop-file.invariant.steps,
      records-within c.args.files.now c.loop-file.file-index c.file-item.result below item,
    )

pub returns-in_default-clause-none : goal.returns-in_default-clause-none
returns-in_default-clause-none g c =
    let sequences : Sequences = record { tested = c.sequences_are_tested.ensures; before = c.sequences_grow.ensures.before } in
    let item = rw c.as_slice-file-items.ensures at c.file-item.is in
    let stops = subst (λ (o : Option Holding). IfNone o (¬ Follows c.args.key (files_of c.loop-file.kept) c.file-item.result))
    c.in_default.is c.in_ok-after.ensures.none in
    kept-none sequences c.args.key c.args.number c.args.files.now c.loop-file.file-index c.loop-file.invariant.none (record {
      stops = λ _. (
        c.file-item.result,
        item,
        subst (λ (l : List (List ℕ)). ¬ Follows c.args.key l c.file-item.result) c.loop-file.invariant.files stops,
      );
    })

pub returns-then-has_number-clause-kept : goal.returns-then-has_number-clause-kept
returns-then-has_number-clause-kept g c =
    let sequences : Sequences = record { tested = c.sequences_are_tested.ensures; before = c.sequences_grow.ensures.before } in
    let below = rw c.as_slice-file-items.ensures at c.loop-file-test.true in
    let item = rw c.as_slice-file-items.ensures at c.file-item.is in
    let kept = subst (λ (o : Option Holding). IfSome o (IsKeptWith c.args.key c.loop-file.kept c.file-item.result))
    c.in-Some.is c.in_ok-after.ensures.some in
    let whole = kept.files
    ∙ ap (λ (l : List (List ℕ)). l ++ c.file-item.result ∷ []) c.loop-file.invariant.files in
    let has = last-number c.one_file_more.ensures.held c.args.key c.loop-file.kept c.file-item.result c.in-Some.after
    c.args.number kept ∙ sym c.has_number.ensures ∙ c.if-has_number.true in
    kept-first sequences c.args.key c.args.number c.args.files.now c.loop-file.file-index c.file-item.result
    (subst (IsUpdateSequence c.args.key) whole kept.live.sequence) below item c.loop-file.invariant.none has
    ∙ ap Some (sym whole)

pub returns-clause-none : goal.returns-clause-none
returns-clause-none g c =
    let sequences : Sequences = record { tested = c.sequences_are_tested.ensures; before = c.sequences_grow.ensures.before } in
    let past = rw c.as_slice-file-items.ensures at c.loop-file-test.false in
    kept-none sequences c.args.key c.args.number c.args.files.now c.loop-file.file-index c.loop-file.invariant.none (record {
      stops = λ below. absurd (omega (arith, below, past));
    })

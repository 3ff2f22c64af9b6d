-- A file that comes behind those that are kept of its cell.
use Rattle.std.proofs.Common.{◌≡◌, ◌≢◌, ℕ, Bool, true, false, not, ◌&&◌, ◌==◌, cond, List, [], ◌∷◌, ◌++◌, length}
use Rattle.std.proofs.Common.{Option, Some, None, Result, Ok, Err, refl, sym, ◌∙◌, ap, subst, inl, inr}
use Rattle.std.proofs.lemmas.Bool.{true≢false, not-true, cases_Bool}
use Rattle.std.specs.Option.{option_map, option_and_then}
use Rattle.std.specs.Result.{IsOk, is_ok, result_ok}
use Rattle.chart_model.specs.Answers.{◌>>=◌}
use Rattle.chart_model.specs.Cell.{CellValue}
use Rattle.chart_model.specs.Dataset.{DatasetValue}
use Rattle.chart_model.specs.State.{IsFileLength}
use Rattle.chart_model.specs.declared.state.Held.{Held}
use Rattle.chart_model.specs.declared.state.Holding.{Holding}
use Rattle.update_sequence.specs.Reading.{data_set_in}
use Rattle.update_sequence.specs.Built.{built}
use Rattle.update_sequence.specs.Judged.{judged}
use Rattle.update_sequence.specs.Rebuilt.{numbers_of, cancelled_numbers, held_by, held_after as held_then, held_with, rebuilt}
use Rattle.update_sequence.specs.Sequence.{Follows, is_in_order}
use Rattle.update_sequence.specs.declared.effect.Effect.{Effect}
use Rattle.update_sequence.specs.declared.effect.Effect.TheVariants.{Replace, Extend, Cancel}
use Rattle.update_sequence.specs.declared.fault.BuildFault.{BuildFault}
use Rattle.update_sequence.specs.declared.fault.ReadFault.{ReadFault}
use Rattle.update_sequence.specs.declared.fault.SequenceFault.{SequenceFault}
use Rattle.chart_store.specs.declared.refusal.Refusal.{Refusal}
use Rattle.chart_store.specs.Refusal.{refusal_of_build}
use Rattle.chart_store.specs.Fault.{or_refused}
use Rattle.chart_store.specs.Following.{CanFollow, IsKeptWith, LeavesBehind}
use Rattle.chart_store.specs.KeptFiles.{has_update, is_update}
use Rattle.chart_store.specs.Live.{IsLive}
use Rattle.chart_store.specs.Loaded.{held_of, chart_of, chart_after, files_of, files_after}
use Rattle.chart_store.proofs.Accepting.{next-live}
use Rattle.chart_store.proofs.Judging.{effect_says}
use Rattle.chart_store.proofs.Keeping.{some_is}
use Rattle.chart_store.proofs.Loading.{Laws, WasLive, held-before, chart-before}

ok_is : {A E : Type 0} {x y : A} → ◌≡◌ {A = Result A E} (Ok x) (Ok y) → x ≡ y
ok_is e = cc

not_both : {A E : Type 0} (r : Result A E) (fault : E) → r ≡ Err fault → IsOk r → ⊥
not_both r fault e h = true≢false (sym h ∙ ap is_ok e)

-- ---- the order

-- where files are kept, no base file follows
pub order-some : (key : List ℕ) (base : Bool) (here : Holding) → IsLive key here →
    is_in_order base here.files ≡ not base
order-some key base here live = some-files here.files live.sequence.some
  where
    some-files : (files : List (List ℕ)) → files ≢ [] → is_in_order base files ≡ not base
    some-files [] some = absurd (some refl)
    some-files (file ∷ files) some = refl

base-first : (files : List (List ℕ)) (base : Bool) → is_in_order base files ≡ true → base ≡ true → files ≡ []
base-first [] base e so = refl
base-first (file ∷ files) base e so = absurd (true≢false (sym so ∙ not-true base e))

pub none-kept : (key : List ℕ) (kept : Option Holding) (base : Bool) → WasLive key kept →
    is_in_order base (files_of kept) ≡ true → base ≡ true → kept ≡ None
none-kept key None base live e so = refl
none-kept key (Some here) base live e so = absurd (live.sequence.some (base-first here.files base e so))

first-tested : (base : Bool) (files : List (List ℕ)) → (base ≡ true → files ≡ []) → (files ≡ [] → base ≡ true) →
    is_in_order base files ≡ true
first-tested base [] there back = back refl
first-tested true (file ∷ files) there back = absurd (let none = there refl in cc)
first-tested false (file ∷ files) there back = refl

-- ---- what may follow

-- a chart is built where it can follow
pub can-build : (kept : Option Holding) (dataset : DatasetValue) (effect : Effect) (refusal : Refusal) →
    (dataset.base ≡ true → kept ≡ None) → (dataset.base ≡ true → dataset.cancels ≡ false) →
    judged (held_of kept) dataset ≡ Ok effect →
    chart_after (chart_of kept) effect dataset ≡ Err refusal → ¬ CanFollow kept dataset
can-build kept dataset Replace refusal first stands judges e can =
    let base = effect_says (held_of kept) dataset Replace judges in
    let nothing : chart_of kept ≡ None = ap chart_of (first base) in
    refused (built None dataset) e
    (subst (λ (c : Option CellValue). IsOk (built c dataset)) nothing (can.builds (stands base)))
  where
    refused : (r : Result CellValue BuildFault) →
        (or_refused refusal_of_build r >>= λ after. Ok (Some after)) ≡ Err refusal → IsOk r → ⊥
    refused (Ok cell) e ok = cc
    refused (Err fault) e ok = cc
can-build kept dataset Extend refusal first stands judges e can =
    let says = effect_says (held_of kept) dataset Extend judges in
    refused (built (chart_of kept) dataset) e (can.builds says.stands)
  where
    refused : (r : Result CellValue BuildFault) →
        (or_refused refusal_of_build r >>= λ after. Ok (Some after)) ≡ Err refusal → IsOk r → ⊥
    refused (Ok cell) e ok = cc
    refused (Err fault) e ok = cc
can-build kept dataset Cancel refusal first stands judges e can = cc

pub can-judge : (kept : Option Holding) (dataset : DatasetValue) (fault : SequenceFault) →
    judged (held_of kept) dataset ≡ Err fault → ¬ CanFollow kept dataset
can-judge kept dataset fault e can = not_both (judged (held_of kept) dataset) fault e can.accepted

-- a file that has no reading follows nothing
pub unread-not : (key : List ℕ) (files : List (List ℕ)) (file : List ℕ) (fault : ReadFault) →
    data_set_in file ≡ Err fault → ¬ Follows key files file
unread-not key files file fault reads h = not_both (data_set_in file) fault reads (ap is_ok h.reads)

module _ (laws : Laws) (key : List ℕ) (kept : Option Holding) (file : List ℕ) (dataset : DatasetValue)
    (live : WasLive key kept) (reads : data_set_in file ≡ Ok dataset) where
  -- it is one of the cell, and stands in order
  pub follow-order : Follows key (files_of kept) file →
      (dataset.header.key ≡ key) × (is_in_order dataset.base (files_of kept) ≡ true)
  follow-order h =
      let same : h.dataset ≡ dataset = ok_is (sym h.reads ∙ reads) in (
        sym (ap (λ (d : DatasetValue). d.header.key) same) ∙ h.keyed,
        first-tested dataset.base (files_of kept)
            (λ base. h.first.0 (ap (λ (d : DatasetValue). d.base) same ∙ base))
            (λ none. sym (ap (λ (d : DatasetValue). d.base) same) ∙ h.first.1 none),
      )

  -- and can follow what is kept
  pub follow-can : Follows key (files_of kept) file → CanFollow kept dataset
  follow-can h =
      let same : h.dataset ≡ dataset = ok_is (sym h.reads ∙ reads) in
      record {
        accepted = subst (λ (n : Option Held). IsOk (judged n dataset)) (held-before laws key kept live)
            (subst (λ (d : DatasetValue). IsOk (judged (held_by (files_of kept)) d)) same h.accepted);
        builds = λ stands. subst (λ (c : Option CellValue). IsOk (built c dataset)) (chart-before laws key kept live)
            (subst (λ (d : DatasetValue). IsOk (built (rebuilt (files_of kept)) d)) same
            (h.builds (ap (λ (d : DatasetValue). d.cancels) same ∙ stands)));
      }

  -- what is kept with it
  pub kept-with : IsFileLength (length file) → dataset.header.key ≡ key →
      is_in_order dataset.base (files_of kept) ≡ true →
      (held : Held) (chart : Option CellValue) → LeavesBehind kept dataset held chart → (after : Holding) →
      after.held ≡ held → after.chart ≡ chart → after.files ≡ files_of kept ++ file ∷ [] →
      IsKeptWith key kept file after
  kept-with short keyed order held chart leaves after held_is chart_is files_is =
      let whole = next-live laws kept dataset file leaves.effect chart
      (subst (λ (k : List ℕ). WasLive k kept) (sym keyed) live) reads short leaves.accepted leaves.builds in
      let behind = files-behind leaves.effect leaves.accepted order in
      record {
        live = subst (λ (k : List ℕ). IsLive k after) keyed (subst (IsLive dataset.header.key)
            (λ i. record {
              held = (sym leaves.numbers ∙ sym held_is) i;
              files = (behind ∙ sym files_is) i;
              chart = sym chart_is i;
            }) whole);
        files = files_is;
      }
    where
      files-behind : (effect : Effect) → judged (held_of kept) dataset ≡ Ok effect →
          is_in_order dataset.base (files_of kept) ≡ true →
          files_after (files_of kept) effect file ≡ files_of kept ++ file ∷ []
      files-behind Replace judges in_order =
          sym (ap (λ (l : List (List ℕ)). l ++ file ∷ [])
          (base-first (files_of kept) dataset.base in_order (effect_says (held_of kept) dataset Replace judges)))
      files-behind Extend judges in_order = refl
      files-behind Cancel judges in_order = refl

-- ---- the number of the last file

-- what one file more leaves of the numbers
abbrev pub OneMore : Type 0
OneMore = (files : List (List ℕ)) (file : List ℕ) → held_by (files ++ file ∷ []) ≡ held_then (held_by files) file

by-data-set : (number : ℕ) (before : Option Held) (dataset : DatasetValue) (held : Held) →
    held_with before dataset ≡ Some held →
    is_update number (Ok dataset) ≡ (not held.cancelled && (held.update == number))
by-data-set number before dataset held e =
    elim (cases_Bool dataset.cancels) [
      | inl cancels ↦
          ap (λ (b : Bool). not b && (dataset.header.update == number)) cancels
          ∙ sym (ap (λ (b : Bool). not b && (held.update == number))
          (cancelled before (sym (ap (λ (b : Bool). cond b (option_map cancelled_numbers before)
          (Some (numbers_of dataset.header))) cancels) ∙ e)))
      | inr stands ↦
          let same : numbers_of dataset.header ≡ held = some_is (sym (ap (λ (b : Bool).
          cond b (option_map cancelled_numbers before) (Some (numbers_of dataset.header))) stands) ∙ e) in
          ap (λ (b : Bool). not b && (dataset.header.update == number)) stands
          ∙ ap (λ (h : Held). not h.cancelled && (h.update == number)) same
    ]
  where
    cancelled : (before : Option Held) → option_map cancelled_numbers before ≡ Some held → held.cancelled ≡ true
    cancelled None e = absurd cc
    cancelled (Some was) e = ap (λ (h : Held). h.cancelled) (sym (some_is e))

-- the last file has the number where it is held, and the cell isn't cancelled
pub last-number : OneMore → (key : List ℕ) (kept : Option Holding) (file : List ℕ) (after : Holding) (number : ℕ) →
    IsKeptWith key kept file after →
    has_update number file ≡ (not after.held.cancelled && (after.held.update == number))
last-number law key kept file after number h =
    let follows = h.live.sequence.each (files_of kept) [] file h.files in
    let held = sym (law (files_of kept) file) ∙ ap held_by (sym h.files) ∙ h.live.numbers in
    ap (is_update number) follows.reads
    ∙ by-data-set number (held_by (files_of kept)) follows.dataset after.held
    (sym (ap (λ (r : Result DatasetValue ReadFault).
    option_and_then (held_with (held_by (files_of kept))) (result_ok r)) follows.reads) ∙ held)

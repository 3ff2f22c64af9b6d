-- What a file leaves that is taken over.
use Rattle.std.proofs.Common.{◌≡◌, ◌⊎◌, inl, inr, ℕ, ◌+◌, ◌==◌, Bool, true, false, cond, not, if◌then◌else◌, List, [], ◌∷◌, ◌++◌, Option, Some, None, Result, Ok, Err, refl, sym, ◌∙◌, ap, subst}
use Rattle.std.specs.Option.{option_map, option_and_then}
use Rattle.std.specs.Result.{IsOk, is_ok, result_ok}
use Rattle.std.proofs.lemmas.Bool.{true≢false}
use Rattle.chart_model.specs.Cell.{CellValue}
use Rattle.chart_model.specs.Dataset.{DatasetValue, IsDataset}
use Rattle.chart_model.specs.declared.dataset.Header.{Header}
use Rattle.chart_model.specs.declared.state.Held.{Held}
use Rattle.update_sequence.specs.declared.effect.Effect.{Effect}
use Rattle.update_sequence.specs.declared.effect.Effect.TheVariants.{Replace, Extend, Cancel}
use Rattle.update_sequence.specs.declared.fault.ReadFault.{ReadFault}
use Rattle.update_sequence.specs.declared.fault.SequenceFault.{SequenceFault}
use Rattle.update_sequence.specs.Reading.{data_set_in}
use Rattle.update_sequence.specs.Judged.{judged, judged_base, judged_update, is_older}
use Rattle.update_sequence.specs.Built.{built}
use Rattle.update_sequence.specs.Rebuilt.{chart_with, chart_after, rebuilt, numbers_of, cancelled_numbers, held_with}
use Rattle.update_sequence.specs.Rebuilt.{held_after, held_by}
use Rattle.update_sequence.specs.Sequence.{Follows, IsUpdateSequence, IsFileOf, Leaves}
use Rattle.update_sequence.proofs.DataSets.{ok_is}

-- ---- what the effects say of a data set

-- an update extends or cancels, and never replaces
chosen : (held cancels edition gap : Bool) (x y z : SequenceFault) (effect : Effect)
    → (if held then Err x else (if cancels then Ok Cancel else (if edition then Err y else (if gap then Err z else Ok Extend)))) ≡ Ok effect
    → ((effect ≡ Cancel) × (cancels ≡ true)) ⊎ ((effect ≡ Extend) × (cancels ≡ false))
chosen true cancels edition gap x y z effect e = absurd cc
chosen false true edition gap x y z effect e = inl (sym (ok_is e), refl)
chosen false false true gap x y z effect e = absurd cc
chosen false false false true x y z effect e = absurd cc
chosen false false false false x y z effect e = inr (sym (ok_is e), refl)

update-effect : (held : Option Held) (given : Header) (cancels : Bool) (effect : Effect) → judged_update held given cancels ≡ Ok effect
    → ((effect ≡ Cancel) × (cancels ≡ true)) ⊎ ((effect ≡ Extend) × (cancels ≡ false))
update-effect None given cancels effect e = absurd cc
update-effect (Some held) given cancels effect e =
    chosen held.cancelled cancels (not (given.edition == held.edition)) (not (given.update == (held.update + 1))) _ _ _ effect e

base-effect : (held : Option Held) (given : Header) (effect : Effect) → judged_base held given ≡ Ok effect → effect ≡ Replace
base-effect None given effect e = sym (ok_is e)
base-effect (Some held) given effect e = by (is_older given held) _ e
  where
    by : (older : Bool) (x : SequenceFault) → (if older then Err x else Ok Replace) ≡ Ok effect → effect ≡ Replace
    by true x e = absurd cc
    by false x e = sym (ok_is e)

-- a base file replaces, and any other file cancels or extends
judged-effect : (held : Option Held) (dataset : DatasetValue) (effect : Effect) → judged held dataset ≡ Ok effect
    → ((dataset.base ≡ true) × (effect ≡ Replace)) ⊎ ((dataset.base ≡ false) × (((effect ≡ Cancel) × (dataset.cancels ≡ true)) ⊎ ((effect ≡ Extend) × (dataset.cancels ≡ false))))
unfolding judged
judged-effect held dataset effect e = by dataset.base refl e
  where
    by : (base : Bool) → dataset.base ≡ base → (if base then judged_base held dataset.header else judged_update held dataset.header dataset.cancels) ≡ Ok effect
        → ((dataset.base ≡ true) × (effect ≡ Replace)) ⊎ ((dataset.base ≡ false) × (((effect ≡ Cancel) × (dataset.cancels ≡ true)) ⊎ ((effect ≡ Extend) × (dataset.cancels ≡ false))))
    by true is e = inl (is, base-effect held dataset.header effect e)
    by false is e = inr (is, update-effect held dataset.header dataset.cancels effect e)

replaces : (held : Option Held) (dataset : DatasetValue) → judged held dataset ≡ Ok Replace → dataset.base ≡ true
replaces held dataset e =
    elim (judged-effect held dataset Replace e) [
      | inl base ↦ base.0
      | inr (is, inl (effect, cancels)) ↦ absurd cc
      | inr (is, inr (effect, stands)) ↦ absurd cc
    ]

extends : (held : Option Held) (dataset : DatasetValue) → judged held dataset ≡ Ok Extend → (dataset.base ≡ false) × (dataset.cancels ≡ false)
extends held dataset e =
    elim (judged-effect held dataset Extend e) [
      | inl (is, effect) ↦ absurd cc
      | inr (is, inl (effect, cancels)) ↦ absurd cc
      | inr (is, inr (effect, stands)) ↦ (is, stands)
    ]

cancels : (held : Option Held) (dataset : DatasetValue) → judged held dataset ≡ Ok Cancel → (dataset.base ≡ false) × (dataset.cancels ≡ true)
cancels held dataset e =
    elim (judged-effect held dataset Cancel e) [
      | inl (is, effect) ↦ absurd cc
      | inr (is, inl (effect, so)) ↦ (is, so)
      | inr (is, inr (effect, stands)) ↦ absurd cc
    ]

-- ---- what one file more leaves

held-read : (held : Option Held) (file : List ℕ) (dataset : DatasetValue) → data_set_in file ≡ Ok dataset → held_after held file ≡ held_with held dataset
held-read held file dataset reads = ap (λ (r : Result DatasetValue ReadFault). option_and_then (held_with held) (result_ok r)) reads

chart-read : (chart : Option CellValue) (file : List ℕ) (dataset : DatasetValue) → data_set_in file ≡ Ok dataset → chart_after chart file ≡ chart_with chart dataset
chart-read chart file dataset reads = ap (λ (r : Result DatasetValue ReadFault). option_and_then (chart_with chart) (result_ok r)) reads

held-is : (held : Option Held) (dataset : DatasetValue) (so : Bool) → dataset.cancels ≡ so
    → held_with held dataset ≡ cond so (option_map cancelled_numbers held) (Some (numbers_of dataset.header))
held-is held dataset so is =
    ap (λ (b : Bool). cond b (option_map cancelled_numbers held) (Some (numbers_of dataset.header))) is

chart-is : (chart : Option CellValue) (dataset : DatasetValue) (so : Bool) → dataset.cancels ≡ so → chart_with chart dataset ≡ cond so None (result_ok (built chart dataset))
chart-is chart dataset so is = ap (λ (b : Bool). cond b None (result_ok (built chart dataset))) is

module _
    (data_sets : (file : List ℕ) (dataset : DatasetValue) → data_set_in file ≡ Ok dataset → IsDataset dataset)
    (none : (held_by [] ≡ None) × (rebuilt [] ≡ None))
    (held_more : (files : List (List ℕ)) (file : List ℕ) → held_by (files ++ file ∷ []) ≡ held_after (held_by files) file)
    (chart_more : (files : List (List ℕ)) (file : List ℕ) → rebuilt (files ++ file ∷ []) ≡ chart_after (rebuilt files) file)
    (sequence_first : (key file : List ℕ) → Follows key [] file → IsUpdateSequence key (file ∷ []))
    (sequence_next : (key : List ℕ) (files : List (List ℕ)) (file : List ℕ) → IsUpdateSequence key files → Follows key files file → IsUpdateSequence key (files ++ file ∷ []))
  where
    pub replaced : (key file : List ℕ) (dataset : DatasetValue) (held : Option Held) → IsFileOf key file dataset → judged held dataset ≡ Ok Replace → IsOk (built None dataset)
        → Leaves key (file ∷ []) (Some (numbers_of dataset.header)) (result_ok (built None dataset))
    unfolding judged
    replaced key file dataset held is so builds = record {
      sequence = sequence_first key file follows;
      numbers = held_more [] file ∙ held-read (held_by []) file dataset is.reads ∙ held-is (held_by []) dataset false stands;
      builds = chart_more [] file ∙ ap (λ (c : Option CellValue). chart_after c file) none.1 ∙ chart-read None file dataset is.reads ∙ chart-is None dataset false stands;
    }
      where
        base : dataset.base ≡ true
        base = replaces held dataset so

        not-cancelled : (b : Bool) → dataset.cancels ≡ b → dataset.cancels ≡ false
        not-cancelled false e = e
        not-cancelled true e = absurd (true≢false (sym base ∙ (data_sets file dataset is.reads).base_stands e))

        stands : dataset.cancels ≡ false
        stands = not-cancelled dataset.cancels refl

        first : judged None dataset ≡ Ok Replace
        first = ap (λ (b : Bool). if b then judged_base None dataset.header else judged_update None dataset.header dataset.cancels) base

        follows : Follows key [] file
        follows = record {
          dataset = dataset;
          short = is.short;
          reads = is.reads;
          keyed = is.keyed;
          first = (λ _. refl, λ _. base);
          accepted = ap is_ok (ap (λ (h : Option Held). judged h dataset) none.0 ∙ first);
          builds = λ _. ap is_ok (ap (λ (c : Option CellValue). built c dataset) none.1) ∙ builds;
        }

    -- a file that is no base file, behind an update sequence
    behind : (key : List ℕ) (files : List (List ℕ)) (file : List ℕ) (dataset : DatasetValue) (effect : Effect) → IsUpdateSequence key files → IsFileOf key file dataset → dataset.base ≡ false
        → judged (held_by files) dataset ≡ Ok effect → (dataset.cancels ≡ false → IsOk (built (rebuilt files) dataset)) → Follows key files file
    behind key files file dataset effect sequence is other so builds = record {
      dataset = dataset;
      short = is.short;
      reads = is.reads;
      keyed = is.keyed;
      first = (λ base. absurd (true≢false (sym base ∙ other)), λ empty. absurd (sequence.some empty));
      accepted = ap is_ok so;
      builds = builds;
    }

    pub extended : (key : List ℕ) (files : List (List ℕ)) (file : List ℕ) (dataset : DatasetValue) → IsUpdateSequence key files → IsFileOf key file dataset → judged (held_by files) dataset ≡ Ok Extend
        → IsOk (built (rebuilt files) dataset) → Leaves key (files ++ file ∷ []) (Some (numbers_of dataset.header)) (result_ok (built (rebuilt files) dataset))
    extended key files file dataset sequence is so builds =
        let kind = extends (held_by files) dataset so in
        record {
          sequence = sequence_next key files file sequence (behind key files file dataset Extend sequence is kind.0 so (λ _. builds));
          numbers = held_more files file ∙ held-read (held_by files) file dataset is.reads ∙ held-is (held_by files) dataset false kind.1;
          builds = chart_more files file ∙ chart-read (rebuilt files) file dataset is.reads ∙ chart-is (rebuilt files) dataset false kind.1;
        }

    pub cancelled_with : (key : List ℕ) (files : List (List ℕ)) (file : List ℕ) (dataset : DatasetValue) → IsUpdateSequence key files → IsFileOf key file dataset → judged (held_by files) dataset ≡ Ok Cancel
        → Leaves key (files ++ file ∷ []) (option_map cancelled_numbers (held_by files)) None
    cancelled_with key files file dataset sequence is so =
        let kind = cancels (held_by files) dataset so in
        record {
          sequence = sequence_next key files file sequence (behind key files file dataset Cancel sequence is kind.0 so (λ stands. absurd (true≢false (sym kind.1 ∙ stands))));
          numbers = held_more files file ∙ held-read (held_by files) file dataset is.reads ∙ held-is (held_by files) dataset true kind.1;
          builds = chart_more files file ∙ chart-read (rebuilt files) file dataset is.reads ∙ chart-is (rebuilt files) dataset true kind.1;
        }

-- the same of files, numbers and a chart that are equal
pub leaves-as : (key : List ℕ) (files after : List (List ℕ)) (held now : Option Held) (chart left : Option CellValue) → Leaves key files held chart → after ≡ files → now ≡ held → left ≡ chart → Leaves key after now left
leaves-as key files after held now chart left is files_are held_are chart_are = record {
  sequence = subst (IsUpdateSequence key) (sym files_are) is.sequence;
  numbers = ap held_by files_are ∙ is.numbers ∙ sym held_are;
  builds = ap rebuilt files_are ∙ is.builds ∙ sym chart_are;
}

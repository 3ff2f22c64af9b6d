-- A re-issue of a chart that is held is taken over, as far as there is room.
use Rattle.std.proofs.Common.{◌≡◌, ℕ, Bool, true, false, cond, not, ◌==◌, ◌&&◌, List, [], ◌∷◌, Option, Some, None}
use Rattle.std.proofs.Common.{IfSome, Result, Ok, Err, refl, sym, ◌∙◌, ap, subst, arith, inl, inr}
use Rattle.std.specs.Prelude.{◌||◌, nat_lt, nat_le, is_some}
use Rattle.std.proofs.lemmas.Bool.{cases_Bool, le-ltb}
use Rattle.std.specs.FinMap as map
use Rattle.chart_model.specs.Answers.{◌>>=◌, or_fault_as}
use Rattle.chart_model.specs.Cell.{CellValue}
use Rattle.chart_model.specs.Dataset.{DatasetValue}
use Rattle.chart_model.specs.State.{StateValue, IsState, IsChartOf, IsHolding}
use Rattle.chart_model.specs.declared.dataset.Header.{Header}
use Rattle.chart_model.specs.declared.state.Held.{Held}
use Rattle.chart_model.specs.declared.state.Holding.{Holding}
use Rattle.update_sequence.specs.Built.{built}
use Rattle.update_sequence.specs.Judged.{is_older, judged}
use Rattle.update_sequence.specs.Rebuilt.{numbers_of}
use Rattle.update_sequence.specs.declared.effect.Effect.{Effect}
use Rattle.update_sequence.specs.declared.effect.Effect.TheVariants.{Replace}
use Rattle.update_sequence.specs.declared.fault.BuildFault.{BuildFault}
use Rattle.update_sequence.specs.declared.fault.SequenceFault.{SequenceFault}
use Rattle.chart_store.specs.declared.refusal.Refusal.{Refusal}
use Rattle.chart_store.specs.declared.refusal.Refusal.TheVariants.{CellsFull}
use Rattle.chart_store.specs.Refusal.{refusal_of_sequence, refusal_of_build}
use Rattle.chart_store.specs.Fault.{or_refused}
use Rattle.chart_store.specs.Loaded.{HoldingsByKey, CELLS_LIMIT, Outcome, cells_within, held_with, loaded}
use Rattle.chart_store.specs.Reissued.{IsReissueOf, held_by_file}
use Rattle.chart_store.specs.Loaded.{held_of, chart_of, chart_after, held_after, state_by_effect, outcome_of_data_set}
use Rattle.chart_store.proofs.Accepting.{loaded-reads}
use Rattle.chart_store.proofs.Placing.{state_by_effect-by}

-- the numbers of a chart that is held are those of its header
numbers_kept : (key : List ℕ) (here : Holding) (chart : CellValue) → IsHolding key here → here.chart ≡ Some chart →
    IsChartOf key here.held chart
numbers_kept key here chart is has = subst (λ (found : Option CellValue). IfSome found (IsChartOf key here.held)) has is.chart

-- a cell with a chart is not cancelled
not_cancelled : (key : List ℕ) (here : Holding) (chart : CellValue) → IsHolding key here → here.chart ≡ Some chart →
    here.held.cancelled ≡ false
not_cancelled key here chart is has =
    elim (cases_Bool here.held.cancelled) [
      | inl so ↦ absurd (let none = sym has ∙ is.cancelled.1 so in cc)
      | inr stands ↦ stands
    ]

held_numbers : (key : List ℕ) (here : Holding) (chart : CellValue) → IsHolding key here → here.chart ≡ Some chart →
    numbers_of chart.header ≡ here.held
held_numbers key here chart is has =
    let of_chart = numbers_kept key here chart is has in
    ap (λ (n : ℕ). record { edition = n; update = chart.header.update; cancelled = false }) of_chart.edition
    ∙ ap (λ (n : ℕ). record { edition = here.held.edition; update = n; cancelled = false }) of_chart.update
    ∙ ap (λ (b : Bool). record { edition = here.held.edition; update = here.held.update; cancelled = b })
    (sym (not_cancelled key here chart is has))

-- numbers are not older than themselves
not_older : (edition update : ℕ) → (nat_lt edition edition || ((edition == edition) && nat_lt update update)) ≡ false
not_older edition update =
    let same : nat_lt edition edition ≡ false = le-ltb edition edition (omega arith) in
    let last : nat_lt update update ≡ false = le-ltb update update (omega arith) in
    rw (same, last) (and-false (edition == edition))
  where
    and-false : (b : Bool) → (b && false) ≡ false
    and-false true = refl
    and-false false = refl

-- a base file of the same numbers replaces the live files
replaces : (dataset : DatasetValue) (held : Held) → dataset.base ≡ true → numbers_of dataset.header ≡ held →
    judged (Some held) dataset ≡ Ok Replace
unfolding judged
replaces dataset held base same =
    let young : is_older dataset.header held ≡ false =
    ap (λ (h : Held). is_older dataset.header h) (sym same) ∙ not_older dataset.header.edition dataset.header.update in
    rw (base, young) refl

-- a cell that is held is no other one
room_for : (cells : HoldingsByKey) (key : List ℕ) (here : Holding) → map.get cells key ≡ Some here →
    cells_within cells key ≡ Ok tt
room_for cells key here found =
    ap (λ (there : Bool). cond (not there && nat_le CELLS_LIMIT (map.len cells)) (Err (CellsFull CELLS_LIMIT)) (Ok tt))
    (let there : map.contains_key cells key ≡ true = ap is_some found in there)

-- the cell is put in with the file, as far as there is room
same_taken : (state : StateValue) (dataset : DatasetValue) (file : List ℕ) (here : Holding) (chart : CellValue) →
    map.get state.cells dataset.header.key ≡ Some here → here.chart ≡ Some chart → dataset.base ≡ true →
    numbers_of dataset.header ≡ here.held → built None dataset ≡ Ok chart →
    outcome_of_data_set state dataset file (map.get state.cells dataset.header.key)
    ≡ held_with state dataset.header.key (held_by_file here file)
same_taken state dataset file here chart found has base same builds =
    ap (λ (r : Result Effect SequenceFault). or_fault_as refusal_of_sequence r >>= λ effect. cells_within state.cells key
    >>= λ _. state_by_effect state dataset file (map.get state.cells key) effect >>= λ after. Ok (record
    { key = key; held = held_after (map.get state.cells key) effect dataset.header; state = after }))
    (ap (λ (before : Option Holding). judged (held_of before) dataset) found ∙ replaces dataset here.held base same)
    ∙ ap (λ (r : Result (Unit {0}) Refusal).
    r >>= λ _. state_by_effect state dataset file (map.get state.cells key) Replace
    >>= λ after. Ok (done after)) (room_for state.cells key here found)
    ∙ ap (λ (r : Result StateValue Refusal). r >>= λ after. Ok (done after))
    (state_by_effect-by state dataset file Replace (numbers_of dataset.header) (Some chart) builds_chart refl)
    ∙ ap (λ (held : Held). held_with state key (record { held = held; files = file ∷ []; chart = Some chart })) same
    ∙ ap (λ (c : Option CellValue). held_with state key (record { held = here.held; files = file ∷ []; chart = c }))
    (sym has)
  where
    key : List ℕ
    key = dataset.header.key

    done : StateValue → Outcome
    done after = record { key = key; held = numbers_of dataset.header; state = after }

    builds_chart : chart_after (chart_of (map.get state.cells key)) Replace dataset ≡ Ok (Some chart)
    builds_chart =
        ap (λ (r : Result CellValue BuildFault). or_refused refusal_of_build r >>= λ after. Ok (Some after)) builds

pub reissue-loaded : (state : StateValue) (key : List ℕ) (here : Holding) (chart : CellValue) (file : List ℕ) →
    IsState state → map.get state.cells key ≡ Some here → here.chart ≡ Some chart → IsReissueOf chart file →
    loaded state file ≡ held_with state key (held_by_file here file)
reissue-loaded state key here chart file held found has is =
    let stands : IsHolding key here = subst (λ (o : Option Holding). IfSome o (IsHolding key)) found (held.cells key) in
    let keyed : is.dataset.header.key ≡ key =
    ap (λ (h : Header). h.key) is.header ∙ (numbers_kept key here chart stands has).keyed in
    let numbers : numbers_of is.dataset.header ≡ here.held =
    ap numbers_of is.header ∙ held_numbers key here chart stands has in
    loaded-reads state file is.dataset is.short is.reads
    ∙ same_taken state is.dataset file here chart (ap (map.get state.cells) keyed ∙ found) has is.base numbers is.builds
    ∙ ap (λ (k : List ℕ). held_with state k (held_by_file here file)) keyed

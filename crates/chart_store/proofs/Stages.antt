-- A file that is staged is judged as one that is loaded.
use Rattle.std.proofs.Common.{◌≡◌, ℕ, ◌≤◌, Bool, true, false, cond, List, length, Option, IfOk, IsErrAnd}
use Rattle.std.proofs.Common.{Result, Ok, Err, refl, sym, ◌∙◌, ap, subst}
use Rattle.std.specs.FinMap as map
use Rattle.chart_model.specs.Answers.{◌>>=◌, or_fault_as}
use Rattle.chart_model.specs.Dataset.{DatasetValue}
use Rattle.chart_model.specs.State.{StateValue}
use Rattle.chart_model.specs.declared.state.Holding.{Holding}
use Rattle.update_sequence.specs.Reading.{data_set_in}
use Rattle.update_sequence.specs.Judged.{judged}
use Rattle.update_sequence.specs.declared.effect.Effect.{Effect}
use Rattle.update_sequence.specs.declared.fault.ReadFault.{ReadFault}
use Rattle.update_sequence.specs.declared.fault.SequenceFault.{SequenceFault}
use Rattle.chart_store.specs.declared.fault.TakeFault.{TakeFault}
use Rattle.chart_store.specs.declared.fault.TakeFault.TheVariants.{Refused, NoMemory}
use Rattle.chart_store.specs.declared.next.Next.{Next}
use Rattle.chart_store.specs.declared.refusal.Refusal.{Refusal}
use Rattle.chart_store.specs.declared.refusal.Refusal.TheVariants.{CellsFull}
use Rattle.chart_store.specs.Fault.{GivesBy, or_refused}
use Rattle.chart_store.proofs.Answering.{Fails, Fails-refused}
use Rattle.chart_store.specs.Refusal.{refusal_of_read, refusal_of_sequence}
use Rattle.chart_store.specs.Loaded.{CELLS_LIMIT, FILE_LIMIT, Outcome, cells_within, held_after, held_of, is_full_for, loaded}
use Rattle.chart_store.specs.Loaded.{outcome_of_data_set, state_by_effect, within_limit}
use Rattle.chart_model.specs.declared.command.Command.TheVariants.{Load}
use Rattle.chart_store.specs.Outcome.{outcome}
use Rattle.chart_store.specs.Next.{GivesNext, GivesNextState, state_by_next}
use Rattle.chart_store.specs.Staging.{StagedValue, judged_in, staged_by, staged_data_set, staged_on}
use Rattle.chart_store.proofs.Accepting.{loaded-reads, within-short}

-- ---- what a load makes of it

err_is : {A B E : Type 0} {x y : E} → ◌≡◌ {A = Result A E} (Err x) (Err y) → ◌≡◌ {A = Result B E} (Err x) (Err y)
err_is {A} {B} {E} {x} {y} e = ap Err (same e)
  where
    same : ◌≡◌ {A = Result A E} (Err x) (Err y) → x ≡ y
    same e = cc

module _ (state : StateValue) (file : List ℕ) (dataset : DatasetValue) (effect : Effect)
    (short : length file ≤ FILE_LIMIT) (reads : data_set_in file ≡ Ok dataset)
    (judges : judged (held_of (map.get state.cells dataset.header.key)) dataset ≡ Ok effect) where
  abbrev before : Option Holding
  before = map.get state.cells dataset.header.key

  abbrev with_state : Result StateValue Refusal → Result Outcome Refusal
  with_state after = after >>= λ held. Ok (record
      { key = dataset.header.key; held = held_after before effect dataset.header; state = held })

  loaded-by : (full : Bool) → is_full_for state.cells dataset.header.key ≡ full → loaded state file
      ≡ (cond full (Err (CellsFull CELLS_LIMIT)) (Ok tt) >>= λ (none : Unit {0}). with_state
      (state_by_effect state dataset file before effect))
  loaded-by full is =
      loaded-reads state file dataset short reads
      ∙ ap (λ (r : Result Effect SequenceFault). or_fault_as refusal_of_sequence r >>= λ eff.
      cells_within state.cells dataset.header.key >>= λ none. state_by_effect state dataset file before eff >>= λ held.
      Ok (record { key = dataset.header.key; held = held_after before eff dataset.header; state = held })) judges
      ∙ ap (λ (f : Bool). cond f (Err (CellsFull CELLS_LIMIT)) (Ok tt) >>= λ (none : Unit {0}). with_state
      (state_by_effect state dataset file before effect)) is

  pub loaded-full : is_full_for state.cells dataset.header.key ≡ true → loaded state file ≡ Err (CellsFull CELLS_LIMIT)
  loaded-full full = loaded-by true full

  pub loaded-room : is_full_for state.cells dataset.header.key ≡ false →
      loaded state file ≡ with_state (state_by_effect state dataset file before effect)
  loaded-room room = loaded-by false room

  -- what would be held is what was to be answered, with the key and the numbers
  pub gives-next : (r : Result Next TakeFault) → is_full_for state.cells dataset.header.key ≡ false →
      GivesNextState r state (state_by_effect state dataset file before effect) →
      IfOk r (λ next. next.key ≡ dataset.header.key) →
      IfOk r (λ next. next.held ≡ held_after before effect dataset.header) → GivesNext r state (loaded state file)
  gives-next r room gives keyed numbers =
      subst (GivesNext r state) (sym (loaded-room room))
      (go r (state_by_effect state dataset file before effect) gives keyed numbers)
    where
      ok_is : {x y : StateValue} → ◌≡◌ {A = Result StateValue TakeFault} (Ok x) (Ok y) → x ≡ y
      ok_is e = cc

      go : (r : Result Next TakeFault) (wanted : Result StateValue Refusal) → GivesNextState r state wanted →
          IfOk r (λ next. next.key ≡ dataset.header.key) →
          IfOk r (λ next. next.held ≡ held_after before effect dataset.header) → GivesNext r state (with_state wanted)
      go (Ok next) (Ok held) gives keyed numbers =
          let same : held ≡ state_by_next state next = ok_is gives in
          λ i. Ok (record { key = sym keyed i; held = sym numbers i; state = same i })
      go (Ok next) (Err refusal) gives keyed numbers = absurd cc
      go (Err fault) (Ok held) gives keyed numbers = λ differs. absurd (let e = gives differs in cc)
      go (Err fault) (Err refusal) gives keyed numbers = λ differs. err_is (gives differs)

-- ---- what a stage refuses

module _ (state : StateValue) (refusal : Refusal) where
  abbrev outcome_of : DatasetValue → List ℕ → Option Holding → Effect → Result Outcome Refusal
  outcome_of dataset file kept effect = state_by_effect state dataset file kept effect >>= λ after. Ok (record
      { key = dataset.header.key; held = held_after kept effect dataset.header; state = after })

  abbrev roomed : Result (Unit {0}) Refusal → Effect → Result Effect Refusal
  roomed room effect = room >>= λ none. Ok effect

  abbrev staged_if : Result Effect Refusal → List ℕ → Option Holding → Result StagedValue Refusal
  staged_if judges file kept = judges >>= λ effect. Ok (staged_on kept file)

  abbrev outcome_if : Result (Unit {0}) Refusal → DatasetValue → List ℕ → Option Holding → Effect → Result Outcome Refusal
  outcome_if room dataset file kept effect = room >>= λ none. outcome_of dataset file kept effect

  by-room : (dataset : DatasetValue) (file : List ℕ) (kept : Option Holding) (effect : Effect)
      (room : Result (Unit {0}) Refusal) → staged_if (roomed room effect) file kept ≡ Err refusal →
      outcome_if room dataset file kept effect ≡ Err refusal
  by-room dataset file kept effect (Ok none) e = absurd cc
  by-room dataset file kept effect (Err fault) e = err_is e

  abbrev judged_if : Result Effect Refusal → DatasetValue → Result Effect Refusal
  judged_if r dataset = r >>= λ effect. roomed (cells_within state.cells dataset.header.key) effect

  abbrev loaded_if : Result Effect Refusal → DatasetValue → List ℕ → Option Holding → Result Outcome Refusal
  loaded_if r dataset file kept = r >>= λ effect. outcome_if (cells_within state.cells dataset.header.key) dataset file
      kept effect

  by-judged : (dataset : DatasetValue) (file : List ℕ) (kept : Option Holding) (r : Result Effect Refusal) →
      staged_if (judged_if r dataset) file kept ≡ Err refusal → loaded_if r dataset file kept ≡ Err refusal
  by-judged dataset file kept (Ok effect) e =
      by-room dataset file kept effect (cells_within state.cells dataset.header.key) e
  by-judged dataset file kept (Err fault) e = err_is e

  by-read : (file : List ℕ) (r : Result DatasetValue Refusal) →
      (r >>= λ dataset. staged_data_set state dataset file (map.get state.cells dataset.header.key)) ≡ Err refusal →
      (r >>= λ dataset. outcome_of_data_set state dataset file (map.get state.cells dataset.header.key)) ≡ Err refusal
  by-read file (Ok dataset) e =
      by-judged dataset file (map.get state.cells dataset.header.key)
      (or_fault_as refusal_of_sequence (judged (held_of (map.get state.cells dataset.header.key)) dataset)) e
  by-read file (Err fault) e = err_is e

  by-limit : (r : Result (List ℕ) Refusal) → (r >>= λ bytes. or_refused refusal_of_read (data_set_in bytes) >>= λ dataset.
      staged_data_set state dataset bytes (map.get state.cells dataset.header.key)) ≡ Err refusal →
      (r >>= λ bytes. or_refused refusal_of_read (data_set_in bytes) >>= λ dataset.
      outcome_of_data_set state dataset bytes (map.get state.cells dataset.header.key)) ≡ Err refusal
  by-limit (Ok bytes) e = by-read bytes (or_refused refusal_of_read (data_set_in bytes)) e
  by-limit (Err fault) e = err_is e

  -- what is refused when a file is staged is refused of its load
  pub staged-refuses : (file : List ℕ) → staged_by state file ≡ Err refusal → loaded state file ≡ Err refusal
  unfolding staged_by loaded
  staged-refuses file e = by-limit (within_limit file) e

-- ---- what is staged

pub staged-reads : (state : StateValue) (file : List ℕ) (dataset : DatasetValue) → length file ≤ FILE_LIMIT →
    data_set_in file ≡ Ok dataset →
    staged_by state file ≡ staged_data_set state dataset file (map.get state.cells dataset.header.key)
unfolding staged_by
staged-reads state file dataset short reads =
    ap (λ (r : Result (List ℕ) Refusal). r >>= λ bytes. or_refused refusal_of_read (data_set_in bytes) >>= λ ds.
    staged_data_set state ds bytes (map.get state.cells ds.header.key)) (within-short file short)
    ∙ ap (λ (r : Result DatasetValue ReadFault). or_refused refusal_of_read r >>= λ ds. staged_data_set state ds file
    (map.get state.cells ds.header.key)) reads

-- ---- by what the calls ensure

-- a fault that is passed up
pub fails-on : {X A B : Type 0} (view : X → B) (r : Result X TakeFault) (fault : TakeFault) (wanted : Result A Refusal)
    (next : A → Result B Refusal) → IsErrAnd r (λ passed. passed ≡ fault) → Fails fault wanted →
    GivesBy view r (wanted >>= next)
fails-on view (Ok x) fault wanted next e fails = absurd e
fails-on {X} {A} {B} view (Err passed) fault wanted next e fails =
    subst (λ (f : TakeFault). Fails f (wanted >>= next)) (sym e) (go wanted fails)
  where
    go : (wanted : Result A Refusal) → Fails fault wanted → Fails fault (wanted >>= next)
    go (Ok x) fails = λ differs. absurd (let e = fails differs in cc)
    go (Err refusal) fails = λ differs. err_is (fails differs)

-- a file that is judged is staged
pub staged-ok : (state : StateValue) (dataset : DatasetValue) (file : List ℕ) (before : Option Holding) (effect : Effect)
    (staged : StagedValue) → judged_in state dataset before ≡ Ok effect → staged_on before file ≡ staged →
    staged_data_set state dataset file before ≡ Ok staged
staged-ok state dataset file before effect staged judges is =
    ap (λ (r : Result Effect Refusal). r >>= λ e. Ok (staged_on before file)) judges ∙ ap Ok is

-- a file that isn't staged isn't loaded, for the same cause
pub fails-loaded : (state : StateValue) (file : List ℕ) (fault : TakeFault) → Fails fault (staged_by state file) →
    Fails fault (loaded state file)
fails-loaded state file (Refused refusal) fails = λ differs.
    ap (λ (r : Result Outcome Refusal). or_fault_as Refused r)
    (staged-refuses state refusal file (Fails-refused (staged_by state file) refusal fails))
fails-loaded state file NoMemory fails = λ differs. absurd (differs refl)

pub passed-on : {X A : Type 0} (view : X → A) (r : Result X TakeFault) (fault : TakeFault) (wanted : Result A Refusal) →
    IsErrAnd r (λ passed. passed ≡ fault) → Fails fault wanted → GivesBy view r wanted
passed-on view (Ok x) fault wanted e fails = absurd e
passed-on view (Err passed) fault wanted e fails = subst (λ (f : TakeFault). Fails f wanted) (sym e) fails

-- the load of a file as a command
pub load-is : (state : StateValue) (file : List ℕ) → outcome state (Load file) ≡ loaded state file
unfolding outcome
load-is state file = refl

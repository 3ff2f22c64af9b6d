-- What a file that is accepted leaves of its cell.
use Rattle.std.proofs.Common.{◌≡◌, ℕ, List, [], ◌∷◌, ◌++◌, length, Option}
use Rattle.std.proofs.Common.{Some, None, IfSome, Result, Ok, Err, refl, ◌∙◌, ap}
use Rattle.std.specs.Prelude.{unwrap_or}
use Rattle.std.specs.Option.{option_map}
use Rattle.std.specs.Result.{IsOk, result_ok, is_ok}
use Rattle.std.specs.FinMap as map
use Rattle.chart_model.specs.Answers.{◌>>=◌, or_fault_as}
use Rattle.chart_model.specs.Cell.{CellValue}
use Rattle.chart_model.specs.Dataset.{DatasetValue}
use Rattle.chart_model.specs.State.{StateValue, IsFileLength}
use Rattle.chart_model.specs.declared.state.Held.{Held}
use Rattle.chart_model.specs.declared.state.Holding.{Holding}
use Rattle.chart_model.specs.declared.dataset.Header.{Header}
use Rattle.update_sequence.specs.Reading.{data_set_in}
use Rattle.update_sequence.specs.Judged.{judged}
use Rattle.update_sequence.specs.Built.{built}
use Rattle.update_sequence.specs.Rebuilt.{numbers_of, cancelled_numbers, held_by, rebuilt}
use Rattle.update_sequence.specs.Sequence.{IsUpdateSequence, IsFileOf, Leaves}
use Rattle.update_sequence.specs.declared.effect.Effect.{Effect}
use Rattle.update_sequence.specs.declared.effect.Effect.TheVariants.{Replace, Extend, Cancel}
use Rattle.update_sequence.specs.declared.fault.SequenceFault.{SequenceFault}
use Rattle.update_sequence.specs.declared.fault.BuildFault.{BuildFault}
use Rattle.chart_store.specs.declared.refusal.Refusal.{Refusal}
use Rattle.chart_store.specs.Refusal.{refusal_of_sequence, refusal_of_build}
use Rattle.chart_store.specs.Fault.{or_refused}
use Rattle.chart_store.specs.ByFiles.{buildable, holding_of}
use Rattle.chart_store.specs.Loaded.{files_of, files_after}
use Rattle.chart_store.specs.ByFiles.{accepted_file}
use Rattle.chart_store.specs.Loaded.{cells_within, store_within, Outcome, held_with}
use Rattle.chart_store.specs.Live.{IsLive}
use Rattle.chart_store.specs.Loaded.{held_of, chart_of, held_after, cell_after, state_by_effect}
use Rattle.chart_store.specs.Loaded.{outcome_of_data_set}
use Rattle.chart_store.proofs.Judging.{effect_says}

-- what is held of the cell before, if anything, is what its files leave
abbrev pub WasLive : List ℕ → Option Holding → Type 0
WasLive key before = IfSome before (IsLive key)

-- a cell that its files leave is the one of these files
pub live-holding : (key : List ℕ) (here : Holding) (header : Header) → IsLive key here →
    holding_of here.files header ≡ here
live-holding key here header h =
    ap (λ (held : Option Held). record {
      held = unwrap_or held (numbers_of header);
      files = here.files;
      chart = rebuilt here.files;
    }) h.numbers
    ∙ ap (λ (chart : Option CellValue). record { held = here.held; files = here.files; chart = chart }) h.builds

-- what accepted files leave, as the law of whole files says it
abbrev pub AcceptedFilesFollow : Type 0
AcceptedFilesFollow = record {
  replaces : (key file : List ℕ) (dataset : DatasetValue) (held : Option Held) → IsFileOf key file dataset →
      judged held dataset ≡ Ok Replace → IsOk (built None dataset) →
      Leaves key (file ∷ []) (Some (numbers_of dataset.header)) (result_ok (built None dataset));
  extends : (key : List ℕ) (files : List (List ℕ)) (file : List ℕ) (dataset : DatasetValue) →
      IsUpdateSequence key files → IsFileOf key file dataset →
      judged (held_by files) dataset ≡ Ok Extend → IsOk (built (rebuilt files) dataset) →
      Leaves key (files ++ file ∷ []) (Some (numbers_of dataset.header)) (result_ok (built (rebuilt files) dataset));
  cancels : (key : List ℕ) (files : List (List ℕ)) (file : List ℕ) (dataset : DatasetValue) →
      IsUpdateSequence key files → IsFileOf key file dataset →
      judged (held_by files) dataset ≡ Ok Cancel →
      Leaves key (files ++ file ∷ []) (option_map cancelled_numbers (held_by files)) None;
}

-- the laws of whole files
pub record Laws : Type 0 where
  pub none : (held_by [] ≡ None) × (rebuilt [] ≡ None)
  pub follow : AcceptedFilesFollow

module _ (laws : Laws) where
  pub held-before : (key : List ℕ) (before : Option Holding) → WasLive key before →
      held_by (files_of before) ≡ held_of before
  held-before key None h = laws.none.0
  held-before key (Some here) h = h.numbers

  pub chart-before : (key : List ℕ) (before : Option Holding) → WasLive key before →
      rebuilt (files_of before) ≡ chart_of before
  chart-before key None h = laws.none.1
  chart-before key (Some here) h = h.builds

  file_of : (file : List ℕ) (dataset : DatasetValue) → data_set_in file ≡ Ok dataset → IsFileLength (length file) →
      IsFileOf dataset.header.key file dataset
  file_of file dataset reads short = record { short = short; reads = reads; keyed = refl }

  -- a base file
  pub live-replace : (before : Option Holding) (dataset : DatasetValue) (file : List ℕ) (cell : CellValue) →
      data_set_in file ≡ Ok dataset → IsFileLength (length file) →
      judged (held_of before) dataset ≡ Ok Replace → built None dataset ≡ Ok cell →
      IsLive dataset.header.key (cell_after before Replace (numbers_of dataset.header) (Some cell) file)
  live-replace before dataset file cell reads short judges builds =
      let l = laws.follow.replaces dataset.header.key file dataset (held_of before) (file_of file dataset reads short)
      judges (ap is_ok builds) in
      record {
        sequence = l.sequence;
        numbers = l.numbers;
        builds = l.builds ∙ ap (λ (r : Result CellValue BuildFault). result_ok r) builds;
      }

  -- an update
  pub live-extend : (before : Option Holding) (dataset : DatasetValue) (file : List ℕ) (cell : CellValue) →
      WasLive dataset.header.key before → data_set_in file ≡ Ok dataset → IsFileLength (length file) →
      judged (held_of before) dataset ≡ Ok Extend → built (chart_of before) dataset ≡ Ok cell →
      IsLive dataset.header.key (cell_after before Extend (numbers_of dataset.header) (Some cell) file)
  live-extend None dataset file cell h reads short judges builds =
      absurd (let says = effect_says None dataset Extend judges in let none = says.is in cc)
  live-extend (Some here) dataset file cell h reads short judges builds =
      let made : built (rebuilt here.files) dataset ≡ Ok cell =
      ap (λ (c : Option CellValue). built c dataset) h.builds ∙ builds in
      let l = laws.follow.extends dataset.header.key here.files file dataset h.sequence (file_of file dataset reads short)
      (ap (λ (n : Option Held). judged n dataset) h.numbers ∙ judges) (ap is_ok made) in
      record {
        sequence = l.sequence;
        numbers = l.numbers;
        builds = l.builds ∙ ap (λ (r : Result CellValue BuildFault). result_ok r) made;
      }

  -- an update that cancels
  pub live-cancel : (before : Option Holding) (dataset : DatasetValue) (file : List ℕ) →
      WasLive dataset.header.key before → data_set_in file ≡ Ok dataset → IsFileLength (length file) →
      judged (held_of before) dataset ≡ Ok Cancel →
      IsLive dataset.header.key (cell_after before Cancel (held_after before Cancel dataset.header) None file)
  live-cancel None dataset file h reads short judges =
      absurd (let says = effect_says None dataset Cancel judges in let none = says.is in cc)
  live-cancel (Some here) dataset file h reads short judges =
      let l = laws.follow.cancels dataset.header.key here.files file dataset h.sequence (file_of file dataset reads short)
      (ap (λ (n : Option Held). judged n dataset) h.numbers ∙ judges) in
      record {
        sequence = l.sequence;
        numbers = l.numbers ∙ ap (option_map cancelled_numbers) h.numbers;
        builds = l.builds;
      }

  -- ---- the step by what is held is the step by whole files

  built-data_set : (state : StateValue) (dataset : DatasetValue) (file : List ℕ) (before : Option Holding)
      (effect : Effect) → WasLive dataset.header.key before → data_set_in file ≡ Ok dataset →
      IsFileLength (length file) → judged (held_of before) dataset ≡ Ok effect →
      (or_refused refusal_of_build (buildable (files_of before) effect dataset) >>= λ _. held_with state dataset.header.key
      (holding_of (files_after (files_of before) effect file) dataset.header))
      ≡ (state_by_effect state dataset file before effect >>= λ after. Ok (record
      { key = dataset.header.key; held = held_after before effect dataset.header; state = after }))
  built-data_set state dataset file before Replace h reads short judges = go (built None dataset) refl
    where
      go : (r : Result CellValue BuildFault) → built None dataset ≡ r →
          (or_refused refusal_of_build (r >>= λ chart. Ok (tt {0})) >>= λ _. held_with state dataset.header.key
          (holding_of (files_after (files_of before) Replace file) dataset.header))
          ≡ (((or_refused refusal_of_build r >>= λ after. Ok (Some after)) >>= λ chart. store_within
          (map.insert state.cells dataset.header.key (cell_after before Replace (numbers_of dataset.header) chart
          file)))
          >>= λ after. Ok (record { key = dataset.header.key; held = numbers_of dataset.header; state = after }))
      go (Ok cell) builds =
          ap (held_with state dataset.header.key)
          (live-holding dataset.header.key _ dataset.header (live-replace before dataset file cell reads short judges
          builds))
      go (Err fault) builds = refl
  built-data_set state dataset file before Extend h reads short judges =
      ap (λ (c : Option CellValue). or_refused refusal_of_build (built c dataset >>= λ chart. Ok (tt {0})) >>= λ _.
      held_with state dataset.header.key (holding_of (files_after (files_of before) Extend file) dataset.header))
      (chart-before dataset.header.key before h)
      ∙ go (built (chart_of before) dataset) refl
    where
      go : (r : Result CellValue BuildFault) → built (chart_of before) dataset ≡ r →
          (or_refused refusal_of_build (r >>= λ chart. Ok (tt {0})) >>= λ _. held_with state dataset.header.key
          (holding_of (files_after (files_of before) Extend file) dataset.header))
          ≡ (((or_refused refusal_of_build r >>= λ after. Ok (Some after)) >>= λ chart. store_within
          (map.insert state.cells dataset.header.key (cell_after before Extend (numbers_of dataset.header) chart
          file)))
          >>= λ after. Ok (record { key = dataset.header.key; held = numbers_of dataset.header; state = after }))
      go (Ok cell) builds =
          ap (held_with state dataset.header.key) (live-holding dataset.header.key _ dataset.header
          (live-extend before dataset file cell h reads short judges builds))
      go (Err fault) builds = refl
  built-data_set state dataset file before Cancel h reads short judges =
      ap (held_with state dataset.header.key) (live-holding dataset.header.key _ dataset.header
      (live-cancel before dataset file h reads short judges))

  pub accepted-data_set : (state : StateValue) (dataset : DatasetValue) (file : List ℕ) (before : Option Holding) →
      WasLive dataset.header.key before → data_set_in file ≡ Ok dataset →
      IsFileLength (length file)
      → accepted_file state dataset file (files_of before) ≡ outcome_of_data_set state dataset file before
  accepted-data_set state dataset file before h reads short =
      ap (λ (n : Option Held). or_fault_as refusal_of_sequence (judged n dataset) >>= λ effect. cells_within
      state.cells dataset.header.key >>= λ _.
      or_refused refusal_of_build (buildable (files_of before) effect dataset) >>= λ _. held_with state dataset.header.key
      (holding_of (files_after (files_of before) effect file) dataset.header))
      (held-before dataset.header.key before h)
      ∙ go (judged (held_of before) dataset) refl
    where
      room : (r : Result (Unit {0}) Refusal) (x y : Result Outcome Refusal) → x ≡ y → (r >>= λ _. x) ≡ (r >>= λ _. y)
      room r x y e = ap (λ (z : Result Outcome Refusal). r >>= λ _. z) e

      go : (r : Result Effect SequenceFault) → judged (held_of before) dataset ≡ r →
          (or_fault_as refusal_of_sequence r >>= λ effect. cells_within state.cells dataset.header.key >>= λ _.
          or_refused refusal_of_build (buildable (files_of before) effect dataset) >>= λ _. held_with state
          dataset.header.key (holding_of (files_after (files_of before) effect file) dataset.header))
          ≡ (or_fault_as refusal_of_sequence r >>= λ effect. cells_within state.cells dataset.header.key >>= λ _.
          state_by_effect state dataset file before effect >>= λ after. Ok (record
          { key = dataset.header.key; held = held_after before effect dataset.header; state = after }))
      go (Ok effect) judges = room (cells_within state.cells dataset.header.key) _ _
          (built-data_set state dataset file before effect h reads short judges)
      go (Err fault) judges = refl

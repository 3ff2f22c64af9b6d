-- A file that is staged: it is read and judged by what is held of its cell, and some of its changes are made.
use Rattle.std.specs.Prelude.{◌≡◌, ℕ, ◌+◌, ◌≤◌, min, if◌then◌else◌, List, [], length, take}
use Rattle.std.specs.Prelude.{Option, None, Result, Ok, Err, IsOk, IsErr, refl}
use Rattle.std.specs.Coded.{Coded, code_by, coded×, coded_list, coded_option, coded_ℕ}
use Rattle.std.specs.FinMap as map
use Rattle.chart_model.specs.Answers.{◌>>=◌, or_fault_as}
use Rattle.chart_model.specs.Cell.{CellValue, cell_code}
use Rattle.chart_model.specs.Change.{Change}
use Rattle.chart_model.specs.Dataset.{DatasetValue}
use Rattle.chart_model.specs.State.{StateValue}
use Rattle.chart_model.specs.contracts.state.Held as held
use Rattle.chart_model.specs.declared.state.Held.{Held}
use Rattle.chart_model.specs.declared.state.Holding.{Holding}
use Rattle.update_sequence.specs.Reading.{data_set_in}
use Rattle.update_sequence.specs.Judged.{judged}
use Rattle.update_sequence.specs.Built.{begun, folded}
use Rattle.update_sequence.specs.declared.effect.Effect.{Effect}
use Rattle.update_sequence.specs.declared.fault.ReadFault.{ReadFault}
use Rattle.update_sequence.specs.declared.fault.BuildFault.{BuildFault}
use Rattle.update_sequence.specs.declared.fault.BuildFault.TheVariants as of_build
use Rattle.chart_store.specs.declared.refusal.Refusal.{Refusal}
use Rattle.chart_store.specs.Refusal.{refusal_of_read, refusal_of_sequence, refusal_of_build}
use Rattle.chart_store.specs.Fault.{or_refused}
use Rattle.chart_store.specs.Loaded.{cells_within, chart_of, held_of, within_limit}

-- The file; the numbers and the chart that were held of its cell when it was staged; how many of its changes are made.
pub record StagedValue : Type 0 where
  pub file : List ℕ
  pub held : Option Held
  pub chart : Option CellValue
  pub done : ℕ

-- a staged file is stored as the tuple of its fields
abbrev pub staged_code : Coded StagedValue
staged_code =
    code_by (List ℕ × (Option Held × (Option CellValue × ℕ)))
    (coded× (coded_list coded_ℕ) (coded× (coded_option held.the_row.coded) (coded× (coded_option cell_code) coded_ℕ)))
    (λ staged. (staged.file, (staged.held, (staged.chart, staged.done))))
    (λ fields. record { file = fields.0; held = fields.1.0; chart = fields.1.1.0; done = fields.1.1.1 })
    (λ _. refl)

-- ---- what a file says

abbrev pub changes_of : Result DatasetValue ReadFault → List Change
changes_of (Ok dataset) = dataset.changes
changes_of (Err fault) = []

-- the changes of the data set that a file is; none where it is none
abbrev pub changes_in : List ℕ → List Change
changes_in file = changes_of (data_set_in file)

abbrev pub key_of : Result DatasetValue ReadFault → List ℕ
key_of (Ok dataset) = dataset.header.key
key_of (Err fault) = []

-- the key of that data set
abbrev pub key_in : List ℕ → List ℕ
key_in file = key_of (data_set_in file)

-- ---- a file that is staged

-- on what is held of its cell, before the first change
abbrev pub staged_on : Option Holding → List ℕ → StagedValue
staged_on before file = record { file = file; held = held_of before; chart = chart_of before; done = 0 }

-- what becomes of the cell's live files, or the first refusal by the numbers and by the number of cells
abbrev pub judged_in : StateValue → DatasetValue → Option Holding → Result Effect Refusal
judged_in state dataset before = do
  effect ← or_fault_as refusal_of_sequence (judged (held_of before) dataset)
  _ ← cells_within state.cells dataset.header.key
  Ok effect

-- a file and the data set that it is, by what is held of the cell
abbrev pub staged_data_set : StateValue → DatasetValue → List ℕ → Option Holding → Result StagedValue Refusal
staged_data_set state dataset file before = do
  _ ← judged_in state dataset before
  Ok (staged_on before file)

-- the file as it is staged, or the first refusal: those that a load tells before its first change is made
unfoldable pub staged_by : StateValue → List ℕ → Result StagedValue Refusal
staged_by state file = do
  bytes ← within_limit file
  dataset ← or_refused refusal_of_read (data_set_in bytes)
  staged_data_set state dataset bytes (map.get state.cells dataset.header.key)

-- what it was staged on is what is held of its cell
pub record IsStagedOn (state : StateValue) (staged : StagedValue) : Type 0 where
  pub held : held_of (map.get state.cells (key_in staged.file)) ≡ staged.held
  pub chart : chart_of (map.get state.cells (key_in staged.file)) ≡ staged.chart

-- ---- its changes

-- what the changes of a data set are made on: nothing for a base file, and else the chart that was held
abbrev pub chart_below : Option CellValue → DatasetValue → Option CellValue
chart_below chart dataset = if dataset.base then None else chart

-- The chart that the first changes of a data set leave. No file is staged that is no data set, so what stands in place
-- of its chart is never seen.
abbrev pub made_of : Option CellValue → ℕ → Result DatasetValue ReadFault → Result CellValue BuildFault
made_of chart n (Ok dataset) = folded (begun (chart_below chart dataset) dataset.header) (take n dataset.changes)
made_of chart n (Err fault) = Err of_build.NoMemory

-- the chart that so many of its changes leave, or the fault of the first of them that can't be made
abbrev pub made_to : StagedValue → ℕ → Result CellValue BuildFault
made_to staged n = made_of staged.chart n (data_set_in staged.file)

-- with so many changes more, or all of them where they are fewer
abbrev pub stepped : ℕ → StagedValue → StagedValue
stepped n staged = record staged { done = min (staged.done + n) (length (changes_in staged.file)) }

-- the file with so many changes more, or the refusal of the first of them that can't be made
abbrev pub step_of : ℕ → StagedValue → Result StagedValue Refusal
step_of n staged = do
  _ ← or_refused refusal_of_build (made_to staged (staged.done + n))
  Ok (stepped n staged)

-- the changes before the first that can't be made are made
pub record IsStopped (staged : StagedValue) : Type 0 where
  pub made : IsOk (made_to staged staged.done)
  pub next : IsErr (made_to staged (staged.done + 1))

-- of the same file, on what was held, with none of its changes taken back and at most so many made more
pub record GoesOn (n : ℕ) (before after : StagedValue) : Type 0 where
  pub same : after ≡ record before { done = after.done }
  pub no_fewer : before.done ≤ after.done
  pub no_more : after.done ≤ before.done + n
  pub within : after.done ≤ length (changes_in after.file)

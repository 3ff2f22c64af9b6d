-- The same step by the live files of the cell alone: whole files say what is accepted, and what is held then.
use Rattle.std.specs.Prelude.{ℕ, List, None, unwrap_or, Result, Ok}
use Rattle.std.specs.FinMap as map
use Rattle.chart_model.specs.Answers.{◌>>=◌, or_fault_as}
use Rattle.chart_model.specs.Dataset.{DatasetValue}
use Rattle.chart_model.specs.State.{StateValue}
use Rattle.chart_model.specs.declared.dataset.Header.{Header}
use Rattle.chart_model.specs.declared.state.Holding.{Holding}
use Rattle.update_sequence.specs.Reading.{data_set_in}
use Rattle.update_sequence.specs.Judged.{judged}
use Rattle.update_sequence.specs.Built.{built}
use Rattle.update_sequence.specs.Rebuilt.{numbers_of, held_by, rebuilt}
use Rattle.update_sequence.specs.declared.effect.Effect.{Effect}
use Rattle.update_sequence.specs.declared.effect.Effect.TheVariants.{Replace, Extend, Cancel}
use Rattle.update_sequence.specs.declared.fault.BuildFault.{BuildFault}
use Rattle.chart_store.specs.declared.refusal.Refusal.{Refusal}
use Rattle.chart_store.specs.Refusal.{refusal_of_read, refusal_of_sequence, refusal_of_build}
use Rattle.chart_store.specs.Fault.{or_refused}
use Rattle.chart_store.specs.Loaded.{files_of, files_after, cells_within, within_limit, held_with, Outcome}

-- a base file has to build a chart on nothing, and an update on the chart of the files; one that cancels builds none
abbrev pub buildable : List (List ℕ) → Effect → DatasetValue → Result (Unit {0}) BuildFault
buildable files Replace dataset = built None dataset >>= λ chart. Ok tt
buildable files Extend dataset = built (rebuilt files) dataset >>= λ chart. Ok tt
buildable files Cancel dataset = Ok tt

-- What is held of a cell by its live files: the numbers and the chart that the whole files leave. Live files leave
-- numbers; the header is that of the last.
abbrev pub holding_of : List (List ℕ) → Header → Holding
holding_of files header = record {
  held = unwrap_or (held_by files) (numbers_of header);
  files = files;
  chart = rebuilt files;
}

-- a file and the data set that it is, by the live files of the cell
abbrev pub accepted_file : StateValue → DatasetValue → List ℕ → List (List ℕ) → Result Outcome Refusal
accepted_file state dataset file files = do
  effect ← or_fault_as refusal_of_sequence (judged (held_by files) dataset)
  _ ← cells_within state.cells dataset.header.key
  _ ← or_refused refusal_of_build (buildable files effect dataset)
  held_with state dataset.header.key (holding_of (files_after files effect file) dataset.header)

-- what is held once the file is accepted, or the first refusal, by live files that leave what is held
unfoldable pub loaded_by_files : StateValue → List ℕ → Result Outcome Refusal
loaded_by_files state file = do
  bytes ← within_limit file
  dataset ← or_refused refusal_of_read (data_set_in bytes)
  accepted_file state dataset bytes (files_of (map.get state.cells dataset.header.key))

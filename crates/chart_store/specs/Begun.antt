-- A file whose changes are begun: what of them is made, and what they name.
use Rattle.std.specs.Prelude.{◌≡◌, ◌+◌, ◌<◌, ◌≤◌, ℕ, List, length, map, take, Option, Some, IfSome, Result, Ok, Err}
use Rattle.chart_model.specs.Answers.{◌>>=◌}
use Rattle.chart_model.specs.Cell.{CellValue}
use Rattle.chart_model.specs.Change.{Change}
use Rattle.chart_model.specs.Dataset.{DatasetValue}
use Rattle.chart_model.specs.State.{IsFileLength}
use Rattle.update_sequence.specs.Built.{built, folded}
use Rattle.update_sequence.specs.Draft.{Advances, DraftValue, finished, first_draft}
use Rattle.update_sequence.specs.Judged.{judged}
use Rattle.update_sequence.specs.Others.{delete_none}
use Rattle.update_sequence.specs.Reading.{data_set_in}
use Rattle.update_sequence.specs.declared.effect.Effect.{Effect}
use Rattle.update_sequence.specs.declared.effect.Effect.TheVariants.{Extend}
use Rattle.update_sequence.specs.declared.fault.BuildFault.{BuildFault}
use Rattle.chart_store.specs.declared.changed.Targets.{Targets}
use Rattle.chart_store.specs.declared.made.Begun.{Begun}
use Rattle.chart_store.specs.declared.refusal.Refusal.{Refusal}
use Rattle.chart_store.specs.declared.work.Work.{Work}
use Rattle.chart_store.specs.declared.fault.TakeFault.TheVariants.{Refused}
use Rattle.chart_store.specs.Fault.{fault_of, or_refused}
use Rattle.chart_store.specs.Refusal.{refusal_of_build}
use Rattle.chart_store.specs.Staging.{chart_below}
use Rattle.chart_store.specs.Taken.{MayBuild}

-- ---- the names

-- the names are those of the changes
pub record AreTargets (changes : List Change) (targets : Targets) : Type 0 where
  pub names : targets.names.items ≡ map (λ change. change.target) changes
  pub kept : targets.delete_none ≡ delete_none changes

-- they are those of an update that makes one chart of the other
pub record AreOfUpdate (targets : Targets) (before after : Option CellValue) : Type 0 where
  pub chart : CellValue
  pub now : CellValue
  pub before_is : before ≡ Some chart
  pub after_is : after ≡ Some now
  pub dataset : DatasetValue
  pub builds : built (Some chart) dataset ≡ Ok now
  pub named : AreTargets dataset.changes targets

-- ---- the changes

-- so many of at most n are made, and the next can't be
pub record IsStoppedAt (made n : ℕ) (fault : BuildFault) (before after : DraftValue) : Type 0 where
  pub advances : Advances before after made
  pub fewer : made < n
  pub next : folded after.cell (take 1 after.rest) ≡ Err fault

-- those before the first that can't be made are counted, and its fault is told as this refusal
pub record Stops (old new n : ℕ) (refusal : Refusal) (before after : DraftValue) : Type 0 where
  pub made : ℕ
  pub counted : new ≡ old + made
  pub fault : BuildFault
  pub tells : fault_of (refusal_of_build fault) ≡ Refused refusal
  pub stops : IsStoppedAt made n fault before after

-- so many of the changes of a data set are made
abbrev pub IsDraftOf : Option CellValue → DatasetValue → ℕ → DraftValue → Type 0
IsDraftOf chart dataset done draft = Advances (first_draft (chart_below chart dataset) dataset) draft done

-- the chart that a draft comes to
abbrev pub chart_finished : DraftValue → Result (Option CellValue) Refusal
chart_finished draft = do
  after ← or_refused refusal_of_build (finished draft)
  Ok (Some after)

-- the same as its effect is carried out, where it isn't given up; the names are those of an update
pub record IsBegun (chart : Option CellValue) (effect : Effect) (dataset : DatasetValue) (done : ℕ) (begun : Begun)
    : Type 0 where
  pub may : MayBuild chart effect dataset
  pub draft : IfSome begun.draft (IsDraftOf chart dataset done)
  pub update : IfSome begun.targets (λ targets. effect ≡ Extend)
  pub targets : IfSome begun.targets (AreTargets dataset.changes)

-- ---- a file

-- the work on a file that was read and judged
pub record IsWorkOf (file : List ℕ) (work : Work) : Type 0 where
  pub dataset : DatasetValue
  pub short : IsFileLength (length file)
  pub reads : data_set_in file ≡ Ok dataset
  pub header : work.header ≡ dataset.header
  pub judges : judged work.before dataset ≡ Ok work.effect
  pub total : work.total ≡ length dataset.changes
  pub fits : length dataset.changes < 4294967296
  pub within : work.done ≤ work.total
  pub begun : IsBegun work.chart work.effect dataset work.done work.begun

-- A file that is taken over: the bytes that it replaces, and whether its data set can be built.
use Rattle.std.specs.Prelude.{◌≡◌, ◌≢◌, ℕ, true, false, Option, IsSome, IfSome}
use Rattle.chart_closure.specs.Closed.{IsClosed}
use Rattle.chart_model.specs.Cell.{CellValue}
use Rattle.chart_model.specs.Dataset.{DatasetValue}
use Rattle.chart_model.specs.declared.state.Holding.{Holding}
use Rattle.update_sequence.specs.declared.effect.Effect.{Effect}
use Rattle.update_sequence.specs.declared.effect.Effect.TheVariants.{Replace, Extend, Cancel}
use Rattle.chart_store.specs.Loaded.{files_of, bytes_of}

-- the bytes of the live files that a file replaces
abbrev pub replaced_bytes : Option Holding → Effect → ℕ
replaced_bytes before Replace = bytes_of (files_of before)
replaced_bytes before Extend = 0
replaced_bytes before Cancel = 0

-- a data set that was judged can be built on the chart
pub record MayBuild (chart : Option CellValue) (effect : Effect) (dataset : DatasetValue) : Type 0 where
  pub stands : effect ≢ Cancel → dataset.cancels ≡ false
  pub base : effect ≡ Replace → dataset.base ≡ true
  pub update : effect ≡ Extend → dataset.base ≡ false
  pub there : effect ≡ Extend → IsSome chart
  pub closed : IfSome chart IsClosed

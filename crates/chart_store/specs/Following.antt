-- A data set that comes behind files that are kept of its cell.
use Rattle.std.specs.Prelude.{◌≡◌, ℕ, false, List, [], ◌∷◌, ◌++◌, Option, Ok, IsOk}
use Rattle.chart_model.specs.Dataset.{DatasetValue}
use Rattle.chart_model.specs.declared.state.Held.{Held}
use Rattle.chart_model.specs.declared.state.Holding.{Holding}
use Rattle.chart_model.specs.Cell.{CellValue}
use Rattle.update_sequence.specs.Built.{built}
use Rattle.update_sequence.specs.Judged.{judged}
use Rattle.update_sequence.specs.declared.effect.Effect.{Effect}
use Rattle.chart_store.specs.Live.{IsLive}
use Rattle.chart_store.specs.Loaded.{held_of, chart_of, held_after, chart_after, files_of}

-- it is judged by the numbers of what is kept, and unless it cancels the cell it builds on the chart
pub record CanFollow (kept : Option Holding) (dataset : DatasetValue) : Type 0 where
  pub accepted : IsOk (judged (held_of kept) dataset)
  pub builds : dataset.cancels ≡ false → IsOk (built (chart_of kept) dataset)

-- what it leaves behind them: these numbers and this chart
pub record LeavesBehind (kept : Option Holding) (dataset : DatasetValue) (held : Held) (chart : Option CellValue)
    : Type 0 where
  pub effect : Effect
  pub accepted : judged (held_of kept) dataset ≡ Ok effect
  pub numbers : held ≡ held_after kept effect dataset.header
  pub builds : chart_after (chart_of kept) effect dataset ≡ Ok chart

-- what is kept with one file more
pub record IsKeptWith (key : List ℕ) (kept : Option Holding) (file : List ℕ) (after : Holding) : Type 0 where
  pub live : IsLive key after
  pub files : after.files ≡ files_of kept ++ file ∷ []

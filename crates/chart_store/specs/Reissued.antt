-- What is held once a chart is re-issued: a base file of its edition and update number, that builds the same chart.
use Rattle.std.specs.Prelude.{◌≡◌, ℕ, true, List, [], ◌∷◌, length, None, Ok}
use Rattle.chart_model.specs.Cell.{CellValue}
use Rattle.chart_model.specs.Dataset.{DatasetValue}
use Rattle.chart_model.specs.State.{IsFileLength}
use Rattle.chart_model.specs.declared.state.Holding.{Holding}
use Rattle.update_sequence.specs.Reading.{data_set_in}
use Rattle.update_sequence.specs.Built.{built}

-- a base file with the chart's header, which builds the chart
pub record IsReissueOf (chart : CellValue) (file : List ℕ) : Type 0 where
  pub dataset : DatasetValue
  pub short : IsFileLength (length file)
  pub reads : data_set_in file ≡ Ok dataset
  pub base : dataset.base ≡ true
  pub header : dataset.header ≡ chart.header
  pub builds : built None dataset ≡ Ok chart

-- the same numbers and the same chart, by this file alone
abbrev pub held_by_file : Holding → List ℕ → Holding
held_by_file here file = record here { files = file ∷ [] }

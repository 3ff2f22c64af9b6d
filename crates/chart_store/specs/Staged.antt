-- A staged file, as contracts see it.
use Rattle.chart_store.specs.Staging.{StagedValue}

abbrev pub staged_of : StagedValue → StagedValue
staged_of staged = staged

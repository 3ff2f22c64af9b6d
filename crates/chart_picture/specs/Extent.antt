-- What a picture shows where the words don't say.
use Rattle.std.specs.Prelude.{◌≡◌, ℕ}
use Rattle.chart_store.specs.Loaded.{HoldingsByKey}
use Rattle.chart_svg.specs.declared.view.View.{View}

abbrev pub IsWholeView : HoldingsByKey → ℕ → View → Type 0
IsWholeView cells width view = view.width ≡ width

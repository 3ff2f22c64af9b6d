-- The picture of the charts that are held.
use Rattle.std.specs.Prelude.{◌≡◌, ℕ, List, map, Option, option_map}
use Rattle.chart_model.specs.State.{StateValue}
use Rattle.chart_model.specs.declared.settings.Settings.{Settings}
use Rattle.chart_svg.specs.declared.chart.Chart.{Chart}
use Rattle.chart_svg.specs.declared.look.Look.{Look}
use Rattle.chart_svg.specs.declared.view.View.{View}
use Rattle.chart_svg.specs.declared.voyage.Voyage.{Voyage}
use Rattle.chart_svg.specs.Document.{document_text}
use Rattle.chart_svg.specs.Voyage.{elements_of}
use Rattle.lookup_table.specs.declared.line.TableLine.{TableLine}
use Rattle.route_check.specs.declared.danger.Danger.{Danger}
use Rattle.route_check.specs.declared.route.Route.{Route}
use Rattle.chart_symbols.specs.Table.{symbols_by}
use Rattle.colour_table.specs.Under.{colours_by_token}
use Rattle.colour_table.specs.declared.swatch.Swatch.{Swatch}
use Rattle.chart_picture.specs.Charts.{value_of_chart, charts_in}
use Rattle.chart_picture.specs.declared.run.voyage.CheckedRoute.{CheckedRoute}

-- a route and its dangers
abbrev pub value_of_voyage : Voyage → Route × List Danger
value_of_voyage voyage = (voyage.route.now, voyage.dangers.now)

abbrev pub value_of_checked : CheckedRoute → Route × List Danger
value_of_checked checked = (checked.route, checked.dangers)

-- the document of all charts that are held, drawn by the table and the settings, and of a route over them
pub record IsPicture (view : View) (look : Look) (table : List TableLine) (settings : Settings) (state : StateValue)
    (checked : Option CheckedRoute) (document : List ℕ) : Type 0 where
  pub charts : List Chart
  pub voyage : Option Voyage
  pub are_held : map value_of_chart charts ≡ charts_in table settings state.cells
  pub is_checked : option_map value_of_voyage voyage ≡ option_map value_of_checked checked
  pub spelled : document ≡ document_text view (elements_of view look charts voyage)

-- what is drawn with: colours, and the symbols that there are in these
pub record IsLook (colours : List Swatch) (look : Look) : Type 0 where
  pub coloured : look.colours ≡ colours_by_token colours
  pub with_symbols : look.symbols ≡ symbols_by colours

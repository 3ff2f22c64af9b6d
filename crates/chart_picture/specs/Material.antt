-- What a picture is drawn from, and the picture.
use Rattle.std.specs.Prelude.{◌≡◌, ℕ, List, Option, Some, None, Result, Ok}
use Rattle.chart_model.specs.Answers.{◌>>=◌}
use Rattle.chart_svg.specs.declared.look.Look.{Look}
use Rattle.chart_svg.specs.declared.view.View.{View}
use Rattle.chart_store.specs.Loaded.{HoldingsByKey, nothing_held}
use Rattle.session_core.specs.Fetch.{Files}
use Rattle.picture_words.specs.Reading.{PictureValue}
use Rattle.picture_words.specs.View.{ViewValue, value_of_view}
use Rattle.chart_picture.specs.Tables.{table_in, colours_in}
use Rattle.chart_picture.specs.Files.{checked_in, loads_from}
use Rattle.chart_picture.specs.Extent.{IsWholeView}
use Rattle.chart_picture.specs.Picture.{IsLook, IsPicture}
use Rattle.chart_picture.specs.declared.run.end.End.{End}
use Rattle.chart_picture.specs.declared.run.material.Material.{Material}

-- What the words ask for lies on the shelf: the table, the colours, the cells that the files leave one after the other,
-- and the route with its dangers. Or the first of the files that is refused, in this order.
unfoldable pub material_in : Files → PictureValue → Result Material End
material_in files words =
    table_in files words >>= λ table.
    colours_in files words >>= λ colours.
    loads_from files nothing_held 1 words.files >>= λ live.
    checked_in files words.settings live words.route >>= λ checked.
    Ok (record { table = table; colours = colours; live = live; checked = checked })

-- the view that words name, and where they name none all that there is
abbrev pub IsViewOf : Option ViewValue → HoldingsByKey → ℕ → View → Type 0
IsViewOf None cells width view = IsWholeView cells width view
IsViewOf (Some named) cells width view = value_of_view view ≡ named

-- the document that the words ask for, of these tables, charts and route
pub record IsDrawn (words : PictureValue) (material : Material) (document : List ℕ) : Type 0 where
  pub view : View
  pub is_view : IsViewOf words.view material.live.cells words.width view
  pub look : Look
  pub is_look : IsLook material.colours look
  pub is_picture : IsPicture view look material.table words.settings material.live material.checked document

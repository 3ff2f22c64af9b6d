-- What a drawing has made already.
use Rattle.std.specs.Prelude.{◌≡◌, List, ⊤, Option, Some, None}
use Rattle.chart_model.specs.Cell.{CellValue}
use Rattle.chart_model.specs.declared.settings.Settings.{Settings}
use Rattle.depth_values.specs.DepthArea.{AreaValue}
use Rattle.depth_values.specs.Under.{areas_of}
use Rattle.depth_symbology.specs.EdgeAnswers.{AreAnswers}
use Rattle.draw_list.specs.declared.items.Known.{Known}

-- depth areas, where they were made, are those of the cell
abbrev pub AreAreas : CellValue → Option (List AreaValue) → Type 0
AreAreas cell None = ⊤
AreAreas cell (Some areas) = areas ≡ areas_of cell

-- the depth areas are those of the cell, and the answers for edges those of the cell at the safety contour
abbrev pub AreKnown : CellValue → Settings → Known → Type 0
AreKnown cell settings known =
    AreAreas cell known.areas × AreAnswers cell settings.safety_contour known.answers

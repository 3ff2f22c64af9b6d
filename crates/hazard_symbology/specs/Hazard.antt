-- The procedures for hazards.
use Rattle.std.specs.Prelude.{int_le, Bool, ◌==◌, if◌then◌else◌, List, [], option_map, unwrap_or}
use Rattle.std.specs.FinMap as finite
use Rattle.chart_model.specs.Cell.{CellValue}
use Rattle.chart_model.specs.Codes.{POINT, LINE, AREA}
use Rattle.chart_model.specs.declared.cell.Feature.{Feature}
use Rattle.chart_model.specs.declared.drawing.Item.{Item}
use Rattle.chart_model.specs.declared.name.Name.{Name}
use Rattle.chart_model.specs.declared.settings.Settings.{Settings}
use Rattle.depth_values.specs.Hazard.{hazard_depth}
use Rattle.hazard_symbology.specs.Point.{point_items}
use Rattle.hazard_symbology.specs.Edges.{line_items, area_items}

-- no deeper than the safety contour
abbrev pub is_danger : CellValue → Settings → Feature → Bool
is_danger cell settings feature = int_le (hazard_depth cell feature) settings.safety_contour

-- what is drawn of a hazard, by its geometry; nothing of what has none
abbrev pub hazard_items : CellValue → Settings → Feature → List Item
hazard_items cell settings feature =
    if feature.prim == POINT then point_items cell settings feature
    else if feature.prim == LINE then line_items (is_danger cell settings feature) feature
    else if feature.prim == AREA then area_items (is_danger cell settings feature) feature
    else []

-- what is drawn of the feature with a name; nothing where there is none
abbrev pub hazard_items_at : CellValue → Settings → Name → List Item
hazard_items_at cell settings name =
    unwrap_or (option_map (hazard_items cell settings) (finite.get cell.features name)) []

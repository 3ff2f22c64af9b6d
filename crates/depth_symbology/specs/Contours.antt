-- The procedure for depth contours.
use Rattle.std.specs.Ordering.{int_eq}
use Rattle.std.specs.Prelude.{ℕ, pos, Bool, ◌==◌, if◌then◌else◌, List, [], ◌∷◌, codes, Option, Some, None}
use Rattle.std.specs.Prelude.{unwrap_or}
use Rattle.std.specs.List.{flat_map}
use Rattle.std.specs.FinMap as finite
use Rattle.chart_model.specs.Cell.{CellValue}
use Rattle.chart_model.specs.Codes.{LINE}
use Rattle.chart_model.specs.declared.cell.Feature.{Feature}
use Rattle.chart_model.specs.declared.drawing.Item.{Item}
use Rattle.chart_model.specs.declared.name.Name.{Name}
use Rattle.chart_model.specs.declared.record.Pointer.{Pointer}
use Rattle.chart_model.specs.declared.settings.Settings.{Settings}
use Rattle.depth_values.specs.Codes.{VALDCO}
use Rattle.depth_values.specs.Attributes.{depth_at}
use Rattle.draw_items.specs.Edges.{is_drawn, on_edge}
use Rattle.draw_items.specs.Style.{style_of}
use Rattle.depth_symbology.specs.Text.{line_text}

-- the contour's depth, VALDCO or 0 where that is unknown, is that of the safety contour
abbrev pub is_safety_contour : Settings → Feature → Bool
is_safety_contour settings feature = int_eq (unwrap_or (depth_at feature VALDCO) (pos 0)) settings.safety_contour

-- a line along the edge, wider where it is the safety contour
abbrev pub contour_text : CellValue → Bool → Name → List ℕ
contour_text cell is_safety edge =
    line_text (style_of cell edge) (if is_safety then codes "2,DEPSC" else codes "1,DEPCN")

-- that of an edge that is drawn
abbrev pub contour_on : CellValue → Bool → Pointer → List Item
contour_on cell is_safety pointer =
    if is_drawn pointer then on_edge pointer.target (contour_text cell is_safety pointer.target) ∷ [] else []

-- what is drawn of a depth contour; nothing of what is no line
abbrev pub depcnt02_of : CellValue → Settings → Feature → List Item
depcnt02_of cell settings feature =
    if feature.prim == LINE
    then flat_map (contour_on cell (is_safety_contour settings feature)) feature.pointers
    else []

-- the same of the feature that is there
abbrev pub depcnt02_in : CellValue → Settings → Option Feature → List Item
depcnt02_in cell settings None = []
depcnt02_in cell settings (Some feature) = depcnt02_of cell settings feature

-- what is drawn of the feature with a name
abbrev pub depcnt02_at : CellValue → Settings → Name → List Item
depcnt02_at cell settings name = depcnt02_in cell settings (finite.get cell.features name)

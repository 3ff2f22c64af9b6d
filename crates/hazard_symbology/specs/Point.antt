-- Hazards at points.
use Rattle.std.specs.Prelude.{ℕ, ℤ, int_le, Bool, ◌&&◌, if◌then◌else◌, List, [], ◌∷◌, codes, Option, Some, None}
use Rattle.chart_model.specs.Cell.{CellValue}
use Rattle.chart_model.specs.declared.cell.Feature.{Feature}
use Rattle.chart_model.specs.declared.drawing.Item.{Item}
use Rattle.chart_model.specs.declared.drawing.Target.TheVariants.{Whole}
use Rattle.chart_model.specs.declared.settings.Settings.{Settings}
use Rattle.depth_values.specs.DigitItems.{digit_items}
use Rattle.depth_values.specs.Hazard.{sounding_of, hazard_depth, lies_in_safe_area}
use Rattle.draw_items.specs.Items.{whole}
use Rattle.hazard_symbology.specs.Symbol.{symbol_of}

-- up to the safety depth, or deeper
abbrev pub danger_symbol : ℤ → ℤ → List ℕ
danger_symbol depth safety_depth =
    if int_le depth safety_depth then codes "SY(DANGER01)" else codes "SY(DANGER02)"

-- that symbol, and the digits of the depth
abbrev pub depth_items : ℤ → ℤ → List Item
depth_items depth safety_depth =
    whole (danger_symbol depth safety_depth) ∷ digit_items Whole depth safety_depth

-- no deeper than the safety contour, over a safe area
abbrev pub is_isolated : CellValue → ℤ → Feature → Bool
is_isolated cell contour feature =
    int_le (hazard_depth cell feature) contour && lies_in_safe_area cell contour feature

-- by its own depth, where that is known
abbrev pub items_by : Settings → Feature → Option ℤ → List Item
items_by settings feature None = whole (symbol_of feature) ∷ []
items_by settings feature (Some depth) = depth_items depth settings.safety_depth

-- an isolated danger has its mark alone
abbrev pub point_items : CellValue → Settings → Feature → List Item
point_items cell settings feature =
    if is_isolated cell settings.safety_contour feature
    then whole (codes "SY(ISODGR01)") ∷ []
    else items_by settings feature (sounding_of feature)

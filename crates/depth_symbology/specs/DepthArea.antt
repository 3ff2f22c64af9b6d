-- The procedure for depth areas.
use Rattle.std.specs.Prelude.{ℤ, Bool, false, not, ◌&&◌, ◌==◌, if◌then◌else◌, List, [], ◌∷◌, ◌++◌, codes}
use Rattle.std.specs.Prelude.{Option, Some, None}
use Rattle.std.specs.List.{list_any, flat_map}
use Rattle.std.specs.FinMap as finite
use Rattle.chart_model.specs.Cell.{CellValue}
use Rattle.chart_model.specs.Codes.{AREA}
use Rattle.chart_model.specs.declared.cell.Feature.{Feature}
use Rattle.chart_model.specs.declared.drawing.Item.{Item}
use Rattle.chart_model.specs.declared.name.Name.{Name}
use Rattle.chart_model.specs.declared.record.Pointer.{Pointer}
use Rattle.chart_model.specs.declared.settings.Settings.{Settings}
use Rattle.topology_cache.specs.Users.{points_to_any}
use Rattle.depth_values.specs.Codes.{DRGARE}
use Rattle.depth_values.specs.declared.area.Depths.{Depths}
use Rattle.depth_values.specs.Area.{depths_of}
use Rattle.depth_values.specs.Safety.{is_safe_area, is_unsafe_area}
use Rattle.draw_items.specs.Items.{whole}
use Rattle.draw_items.specs.Edges.{is_drawn, on_edge}
use Rattle.draw_items.specs.Style.{style_of}
use Rattle.depth_symbology.specs.Text.{line_text, colour_text}
use Rattle.depth_symbology.specs.Colour.{is_deeper, colour_of}

-- ---- safety contours

-- an unsafe area points to the edge: every feature of the cell is looked at
abbrev pub borders_unsafe : CellValue → ℤ → Name → Bool
borders_unsafe cell contour edge =
    list_any (λ entry. is_unsafe_area contour entry.1 && points_to_any edge entry.1.pointers)
    (finite.entries cell.features)

-- the safety contour on an edge of a safe area, where the edge is drawn and an unsafe area, which is another, lies
-- beyond it
abbrev pub contours_on : CellValue → ℤ → Pointer → List Item
contours_on cell contour pointer =
    if is_drawn pointer && borders_unsafe cell contour pointer.target
    then on_edge pointer.target (line_text (style_of cell pointer.target) (codes "2,DEPSC")) ∷ []
    else []

abbrev pub contour_items : CellValue → ℤ → Feature → List Item
contour_items cell contour feature =
    if is_safe_area contour feature then flat_map (contours_on cell contour) feature.pointers else []

-- ---- the whole

-- a pattern on what isn't deeper than the safety contour, where it is asked for
abbrev pub pattern_items : Settings → Depths → List Item
pattern_items settings depths =
    if settings.pattern && not (is_deeper settings.safety_contour depths) then whole (codes "AP(DIAMOND1)") ∷ []
    else []

-- the pattern and the outline of a dredged area
abbrev pub dredged_items : Feature → List Item
dredged_items feature =
    if feature.class == DRGARE then whole (codes "AP(DRGARE01)") ∷ whole (codes "LS(DASH,1,CHGRF)") ∷ [] else []

-- what is drawn of a depth area, or of any area by the same rules; nothing of what is no area
abbrev pub depare01_of : CellValue → Settings → Feature → List Item
depare01_of cell settings feature =
    if feature.prim == AREA
    then whole (colour_text (colour_of settings (depths_of feature)))
    ∷ (pattern_items settings (depths_of feature)
    ++ (dredged_items feature ++ contour_items cell settings.safety_contour feature))
    else []

-- the same of the feature that is there
abbrev pub depare01_in : CellValue → Settings → Option Feature → List Item
depare01_in cell settings None = []
depare01_in cell settings (Some feature) = depare01_of cell settings feature

-- what is drawn of the feature with a name
abbrev pub depare01_at : CellValue → Settings → Name → List Item
depare01_at cell settings name = depare01_in cell settings (finite.get cell.features name)

-- ---- user by user

abbrev pub is_unsafe_in : ℤ → Option Feature → Bool
is_unsafe_in contour None = false
is_unsafe_in contour (Some feature) = is_unsafe_area contour feature

-- the feature with a name is an unsafe area
abbrev pub is_unsafe_at : CellValue → ℤ → Name → Bool
is_unsafe_at cell contour name = is_unsafe_in contour (finite.get cell.features name)

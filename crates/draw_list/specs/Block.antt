-- What is drawn of a feature.
use Rattle.std.specs.Prelude.{◌≡◌, ℕ, ◌≤◌, nat_lt, ◌==◌, Bool, false, if◌then◌else◌, List, [], ◌∷◌, codes, slice_get}
use Rattle.std.specs.Prelude.{Option, Some, None, option_and_then}
use Rattle.std.specs.List.{flat_map}
use Rattle.std.specs.Int.{IsInRange}
use Rattle.std.specs.FinMap as map
use Rattle.chart_model.specs.Attrs.{Attrs}
use Rattle.chart_model.specs.Cell.{CellValue}
use Rattle.chart_model.specs.Codes.{POINT, LINE, AREA}
use Rattle.chart_model.specs.declared.cell.Feature.{Feature}
use Rattle.chart_model.specs.declared.drawing.Block.{Block}
use Rattle.chart_model.specs.declared.drawing.Geom.{Geom}
use Rattle.chart_model.specs.declared.drawing.Geom.TheVariants.{Area, Line, Point}
use Rattle.chart_model.specs.declared.drawing.Item.{Item}
use Rattle.chart_model.specs.declared.name.Name.{Name}
use Rattle.chart_model.specs.declared.settings.Settings.{Settings}
use Rattle.text_scan.specs.Number.{IsNumber, value_of, number_of}
use Rattle.lookup_table.specs.declared.line.TableLine.{TableLine}
use Rattle.lookup_table.specs.Selection.{place_for}
use Rattle.draw_items.specs.Items.{whole}
use Rattle.draw_list.specs.Items.{items_by}

-- ---- what is shown

-- the feature of this name is a point, a line or an area, and its SCAMIN (133), where it is a number, isn't below the
-- denominator of the display scale
pub record IsShown (cell : CellValue) (scale : ℕ) (name : Name) : Type 0 where
  pub feature : Feature
  pub there : map.get cell.features name ≡ Some feature
  pub primitive : IsInRange POINT AREA feature.prim
  pub scamin : (text : List ℕ) → map.get feature.attrs 133 ≡ Some text → IsNumber text → scale ≤ value_of text

-- ---- as a function

abbrev pub geom_of : ℕ → Option Geom
geom_of prim =
    if prim == AREA then Some Area
    else if prim == LINE then Some Line
    else if prim == POINT then Some Point
    else None

abbrev pub is_below : ℕ → Option ℕ → Bool
is_below scale None = false
is_below scale (Some scamin) = nat_lt scamin scale

abbrev pub is_hidden : Attrs → ℕ → Bool
is_hidden attrs scale = is_below scale (option_and_then number_of (map.get attrs 133))

-- a question mark
abbrev pub unknown_items : List Item
unknown_items = whole (codes "SY(QUESMRK1)") ∷ []

-- the block by the line of the table for the feature, where there is one
abbrev pub block_with : CellValue → Settings → Feature → Geom → Option TableLine → Block
block_with cell settings feature geom None = record { priority = 5; geom = geom; items = unknown_items }
block_with cell settings feature geom (Some line) = record {
  priority = line.priority;
  geom = geom;
  items = flat_map (items_by cell settings feature) line.instructions;
}

-- the line of the table for the feature
abbrev pub line_for : List TableLine → Feature → Geom → Option TableLine
line_for table feature geom = option_and_then (slice_get table) (place_for table feature.class geom feature.attrs)

abbrev pub block_as : CellValue → List TableLine → Settings → Feature → Option Geom → Option Block
block_as cell table settings feature None = None
block_as cell table settings feature (Some geom) =
    if is_hidden feature.attrs settings.scale then None
    else Some (block_with cell settings feature geom (line_for table feature geom))

-- what is drawn of a feature of the cell, where it is shown
abbrev pub block_in : CellValue → List TableLine → Settings → Feature → Option Block
block_in cell table settings feature = block_as cell table settings feature (geom_of feature.prim)

-- what is drawn of the feature of a name
abbrev pub block_at : CellValue → List TableLine → Settings → Name → Option Block
block_at cell table settings name = option_and_then (block_in cell table settings) (map.get cell.features name)

-- The procedure for soundings.
use Rattle.std.specs.Prelude.{ℤ, List, [], All, ⊤, Option, Some, None}
use Rattle.std.specs.List.{flat_map}
use Rattle.std.specs.FinMap as finite
use Rattle.chart_model.specs.Cell.{CellValue}
use Rattle.chart_model.specs.declared.cell.Feature.{Feature}
use Rattle.chart_model.specs.declared.drawing.Item.{Item}
use Rattle.chart_model.specs.declared.drawing.Target.{Target}
use Rattle.chart_model.specs.declared.drawing.Target.TheVariants.{At}
use Rattle.chart_model.specs.declared.name.Name.{Name}
use Rattle.chart_model.specs.declared.record.Coord.{Coord}
use Rattle.chart_model.specs.Record.{IsCoord}
use Rattle.chart_model.specs.declared.settings.Settings.{Settings}
use Rattle.area_rings.specs.declared.shape.Shape.{Shape}
use Rattle.area_rings.specs.declared.shape.Shape.TheVariants.{Points, Lines, Rings, Bare}
use Rattle.area_rings.specs.Shape.{shape_of}
use Rattle.depth_values.specs.DigitItems.{digit_items}

-- the digits of a depth, where there is one
abbrev pub depth_items : Target → ℤ → Option ℤ → List Item
depth_items place safety_depth None = []
depth_items place safety_depth (Some depth) = digit_items place depth safety_depth

-- the digits of a sounding, at its place
abbrev pub sounding_items : Settings → Coord → List Item
sounding_items settings coord = depth_items (At coord.x coord.y) settings.safety_depth coord.z

-- those of all soundings among coordinates
abbrev pub soundings_of : Settings → List Coord → List Item
soundings_of settings coords = flat_map (sounding_items settings) coords

-- those of the coordinates of a point feature; nothing of any other
abbrev pub soundings_in : Settings → Option Shape → List Item
soundings_in settings None = []
soundings_in settings (Some (Points coords)) = soundings_of settings coords
soundings_in settings (Some (Lines lines)) = []
soundings_in settings (Some (Rings rings)) = []
soundings_in settings (Some Bare) = []

abbrev pub soundg02_of : CellValue → Settings → Feature → List Item
soundg02_of cell settings feature = soundings_in settings (shape_of cell feature)

-- the same of the feature that is there
abbrev pub soundg02_in : CellValue → Settings → Option Feature → List Item
soundg02_in cell settings None = []
soundg02_in cell settings (Some feature) = soundg02_of cell settings feature

-- what is drawn of the feature with a name
abbrev pub soundg02_at : CellValue → Settings → Name → List Item
soundg02_at cell settings name = soundg02_in cell settings (finite.get cell.features name)

-- the points of a shape are coordinates on the globe, with depths that a sounding can have
abbrev pub HasCoords : Option Shape → Type 0
HasCoords None = ⊤
HasCoords (Some (Points coords)) = All IsCoord coords
HasCoords (Some (Lines lines)) = ⊤
HasCoords (Some (Rings rings)) = ⊤
HasCoords (Some Bare) = ⊤

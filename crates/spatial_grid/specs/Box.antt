-- The boxes of the features of a chart.
use Rattle.std.specs.Prelude.{◌≡◌, ◌≢◌, ◌↔◌, List, [], map, All, Some}
use Rattle.std.specs.List.{flat_map}
use Rattle.std.specs.FinMap as finite
use Rattle.chart_model.specs.declared.name.Name.{Name}
use Rattle.chart_model.specs.declared.cell.Feature.{Feature}
use Rattle.chart_model.specs.Names.{name_cmp}
use Rattle.chart_model.specs.Cell.{CellValue}
use Rattle.plane_geometry.specs.declared.point.Pt.{Pt}
use Rattle.area_rings.specs.declared.shape.Shape.{Shape}
use Rattle.area_rings.specs.declared.shape.Shape.TheVariants.{Points, Lines, Rings, Bare}
use Rattle.area_rings.specs.Edge.{point_of}
use Rattle.area_rings.specs.Shape.{shape_of}
use Rattle.plane_bounds.specs.declared.bounds.Bounds.{Bounds}
use Rattle.plane_bounds.specs.Bounds.{IsIn, Holds}

-- all points of a shape
abbrev pub points_in : Shape → List Pt
points_in (Points coords) = map point_of coords
points_in (Lines lines) = flat_map (λ line. line) lines
points_in (Rings rings) = flat_map (λ ring. ring) rings
points_in Bare = []

-- the least box that holds all of the points, of which there is one at least
pub record IsLeastBox (points : List Pt) (box : Bounds) : Type 0 where
  pub some : points ≢ []
  pub all : All (IsIn box) points
  pub least : (other : Bounds) → All (IsIn other) points → Holds other box

-- the name is that of a feature whose shape has a point, and the box is the least that holds its shape
pub record HasBox (cell : CellValue) (name : Name) (box : Bounds) : Type 0 where
  pub feature : Feature
  pub there : finite.get cell.features name ≡ Some feature
  pub shape : Shape
  pub shaped : shape_of cell feature ≡ Some shape
  pub boxed : IsLeastBox (points_in shape) box

-- the grid has exactly these names, each with that box
abbrev pub IsGridOf : CellValue → finite.FinMap name_cmp Bounds → Type 0
IsGridOf cell grid = (name : Name) (box : Bounds) → (finite.get grid name ≡ Some box) ↔ HasBox cell name box

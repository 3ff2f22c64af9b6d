-- A dangerous object of a chart, as contracts see it.
use Rattle.std.specs.Prelude.{ℕ, List, All, ⊤}
use Rattle.plane_bounds.specs.declared.bounds.Bounds.{Bounds}
use Rattle.plane_bounds.specs.Bounds.{IsIn, RingsIn}
use Rattle.area_rings.specs.declared.shape.Shape.{Shape}
use Rattle.area_rings.specs.declared.shape.Shape.TheVariants.{Points, Lines, Rings, Bare}
use Rattle.area_rings.specs.Edge.{point_of}

-- the key of the chart, the number of the feature, the place of a sounding among the coordinates of its feature, or 0
-- of a whole feature, and the object's shape
pub record ObjectValue : Type 0 where
  pub key : List ℕ
  pub rcid : ℕ
  pub place : ℕ
  pub shape : Shape

-- all points of the shape are in the box
abbrev pub ShapeIn : Bounds → Shape → Type 0
ShapeIn bounds (Points coords) = All (λ coord. IsIn bounds (point_of coord)) coords
ShapeIn bounds (Lines lines) = RingsIn bounds lines
ShapeIn bounds (Rings rings) = RingsIn bounds rings
ShapeIn bounds Bare = ⊤

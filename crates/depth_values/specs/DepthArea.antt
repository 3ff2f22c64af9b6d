-- Depth areas and what they cover, as contracts see them.
use Rattle.std.specs.Prelude.{ℕ, ℤ, List}
use Rattle.chart_model.specs.declared.name.Name.{Name}
use Rattle.plane_geometry.specs.declared.point.Pt.{Pt}

-- a name, the least depth in centimetres, and the rings
pub record AreaValue : Type 0 where
  pub name : Name
  pub d1 : ℤ
  pub rings : List (List Pt)

-- rings, and the places of the areas that have just these
pub record ExtentValue : Type 0 where
  pub rings : List (List Pt)
  pub places : List ℕ

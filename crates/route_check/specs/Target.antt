-- What of a dangerous object a leg may meet.
use Rattle.std.specs.Prelude.{[], ◌∷◌}
use Rattle.area_rings.specs.declared.shape.Shape.{Shape}
use Rattle.area_rings.specs.declared.shape.Shape.TheVariants.{Points}
use Rattle.route_check.specs.declared.target.Target.{Target}
use Rattle.route_check.specs.declared.target.Target.TheVariants.{Whole, Sounding}

-- as a shape: a sounding is a point alone
abbrev pub shape_in : Target → Shape
shape_in (Whole shape) = shape
shape_in (Sounding coord) = Points (coord ∷ [])

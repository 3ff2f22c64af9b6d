-- What an extent keeps of its rings, so that they are asked fast.
use Rattle.std.specs.Prelude.{List}
use Rattle.plane_geometry.specs.declared.point.Pt.{Pt}
use Rattle.plane_bounds.specs.declared.bounds.Bounds.{Bounds}
use Rattle.plane_bounds.specs.Bounds.{RingsIn}
use Rattle.ring_strips.specs.Strips.{StripValue, AreStrips}

-- the rings are in the box, and the strips say what is inside them
pub record IsCut (rings : List (List Pt)) (bounds : Bounds) (strips : List StripValue) : Type 0 where
  pub within : RingsIn bounds rings
  pub told : AreStrips rings strips

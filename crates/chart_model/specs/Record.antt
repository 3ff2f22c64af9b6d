-- What holds of the parts of vector and feature records.
use Rattle.std.specs.Prelude.{◌≡◌, ◌≢◌, ◌⊎◌, ℕ, ℤ, pos, ◌*ℤ◌, unsigned_abs, ◌≤◌, List, All, IfSome, IsSome, IsNone}
use Rattle.std.specs.Int.{IsInRange}
use Rattle.chart_model.specs.declared.name.Name.{Name}
use Rattle.chart_model.specs.declared.record.Coord.{Coord}
use Rattle.chart_model.specs.Codes.{FEATURE, ISOLATED_NODE, CONNECTED_NODE, EDGE, POINT, AREA, NO_PRIMITIVE}
use Rattle.chart_model.specs.Codes.{FIELD_TERMINATOR, UNIT_TERMINATOR}

-- an isolated node, a connected node or an edge
abbrev pub IsVectorName : Name → Type 0
IsVectorName name = (name.rcnm ≡ ISOLATED_NODE) ⊎ ((name.rcnm ≡ CONNECTED_NODE) ⊎ (name.rcnm ≡ EDGE))

abbrev pub IsFeatureName : Name → Type 0
IsFeatureName name = name.rcnm ≡ FEATURE

-- a whole number from -n to n
abbrev pub IsWithin : ℕ → ℤ → Type 0
IsWithin n z = unsigned_abs z ≤ n

-- a sounding's depth in centimetres: 10 times a number of decimetres from -999,999 to 999,999
abbrev pub IsDepth : ℤ → Type 0
IsDepth z = (decimetres : ℤ) × IsWithin 999999 decimetres × (z ≡ decimetres *ℤ pos 10)

-- degrees times 10,000,000, on the globe
pub record IsCoord (coord : Coord) : Type 0 where
  pub longitude : IsWithin 1800000000 coord.x
  pub latitude : IsWithin 900000000 coord.y
  pub depth : IfSome coord.z IsDepth

-- the coordinates of one record: all of them have a depth, or none has
pub record AreCoords (coords : List Coord) : Type 0 where
  pub each : All IsCoord coords
  pub alike : All (λ coord. IsSome coord.z) coords ⊎ All (λ coord. IsNone coord.z) coords

-- the text has neither a field terminator nor a unit terminator
abbrev pub IsPlainText : List ℕ → Type 0
IsPlainText text = All (λ byte. (byte ≢ FIELD_TERMINATOR) × (byte ≢ UNIT_TERMINATOR)) text

-- a point, a line, an area or none of these
abbrev pub IsPrim : ℕ → Type 0
IsPrim prim = IsInRange POINT AREA prim ⊎ (prim ≡ NO_PRIMITIVE)

-- What the code's casts leave as it is.
use Rattle.std.proofs.Common.{◌≡◌, ◌<◌, ◌^◌, ℤ, pos, ◌+ℤ◌, ◌-ℤ◌, neg_ℤ, unsigned_abs, ap, refl, arith, to_z, of_z, w32, w64}
use mir.Val.{SFits}
use Rattle.std.proofs.lemmas.Int.{ints, to_z-of_z}
use Rattle.route_geometry.specs.Bound.{IsBoundedSide}

pub same : (x : ℤ) → unsigned_abs x < 2 ^ 32 → to_z w64 (of_z w64 x) ≡ x
same x h = omega (arith, ints)

pub plus : (x y : ℤ) → unsigned_abs x < 2 ^ 32 → unsigned_abs y < 2 ^ 32 → to_z w64 (of_z w64 (to_z w64 (of_z w64 x) +ℤ to_z w64 (of_z w64 y))) ≡ x +ℤ y
plus x y h k = omega (arith, ints)

pub minus : (x y : ℤ) → unsigned_abs x < 2 ^ 32 → unsigned_abs y < 2 ^ 32 → to_z w64 (of_z w64 (to_z w64 (of_z w64 x) -ℤ to_z w64 (of_z w64 y))) ≡ x -ℤ y
minus x y h k = omega (arith, ints)

pub negative : (x : ℤ) → unsigned_abs x < 2 ^ 32 → to_z w64 (of_z w64 (pos 0 -ℤ to_z w64 (of_z w64 x))) ≡ neg_ℤ x
negative x h = omega (arith, ints)

-- sums of a few such numbers
pub bounded : (x y z : ℤ) → unsigned_abs x < 2 ^ 33 → unsigned_abs y < 2 ^ 32 → unsigned_abs z < 2 ^ 32 → IsBoundedSide x y z
bounded x y z h k l = record {
  at_start = omega (arith, ints);
  at_leg = omega (arith, ints);
  at_segment = omega (arith, ints);
  at_both = omega (arith, ints);
}

pub negative_same : (x : ℤ) → unsigned_abs x < 2 ^ 32 → to_z w64 (of_z w64 (pos 0 -ℤ to_z w64 (of_z w64 x))) ≡ neg_ℤ (to_z w64 (of_z w64 x))
negative_same x h = rw (negative x h, same x h) refl

pub same_negative : (x : ℤ) → unsigned_abs x < 2 ^ 32 → to_z w64 (of_z w64 x) ≡ neg_ℤ (to_z w64 (of_z w64 (pos 0 -ℤ to_z w64 (of_z w64 x))))
same_negative x h = let twice = ap neg_ℤ (negative x h) in omega (arith, ints, same x h, twice)

-- a difference of two coordinates
pub coordinates : (r a b : ℤ) → SFits w32 a → SFits w32 b → r ≡ to_z w32 (of_z w32 a) -ℤ to_z w32 (of_z w32 b) → r ≡ a -ℤ b
coordinates r a b h k e = simp to_z-of_z at e

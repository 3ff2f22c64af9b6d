-- Parts of an axis stand in the order of the numbers in them.
use Rattle.std.proofs.Common.{ℕ, ◌/◌, ◌≤◌, ℤ, ◌-ℤ◌, ◌≤ℤ◌, unsigned_abs, max, arith}
use Rattle.std.specs.Int.{int_min, int_max}
use Rattle.std.proofs.lemmas.Int.{ints, clamps}
use Rattle.std.proofs.lemmas.Nat.{le-div}
use Rattle.std.proofs.Math.Nat.{mul_comm, mul-div-le}
use Rattle.spatial_grid.specs.declared.axis.Axis.{Axis}
use Rattle.spatial_grid.specs.Buckets.{index_on}

div_rises : (a b k : ℕ) → 1 ≤ k → a ≤ b → a / k ≤ b / k
div_rises a b k p l = le-div (a / k) b k (omega (arith, p)) (omega (arith, mul-div-le a k, mul_comm k (a / k), l))

pub index_rises : (axis : Axis) (a b : ℤ) → a ≤ℤ b → index_on axis a ≤ index_on axis b
unfolding index_on
index_rises axis a b h =
    let far : unsigned_abs (int_max (int_min a axis.high) axis.low -ℤ axis.low) ≤ unsigned_abs (int_max (int_min b axis.high) axis.low -ℤ axis.low) =
    omega (arith, ints, clamps, h) in
    let parts = div_rises _ _ (max axis.width 1) (omega arith) far in
    omega (arith, parts)

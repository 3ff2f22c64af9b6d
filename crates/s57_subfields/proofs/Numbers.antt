-- A binary number within a bound, above it, and below 0.
use Rattle.std.proofs.Common.{◌≡◌, ℕ, ◌^◌, ◌<◌, ◌≤◌, Some, None, refl, arith}
use Rattle.std.specs.Prelude.{ℤ, pos, negsuc, unsigned_abs, ◌≤ℤ◌, ◌<ℤ◌, FitsSigned}
use Rattle.std.specs.Int.{w32}
use Rattle.std.proofs.lemmas.Int.{ints}
use Rattle.std.proofs.lemmas.Bool.{le-leb, lt-leb}
use Rattle.s57_subfields.specs.Number.{natural_up_to}

pub natural_within : (most : ℕ) (z : ℤ) → pos 0 ≤ℤ z → unsigned_abs z ≤ most → natural_up_to most z ≡ Some (unsigned_abs z)
unfolding natural_up_to
natural_within most (pos n) sign le = rw (le-leb n most le) refl
natural_within most (negsuc n) sign le = absurd (omega arith)

pub natural_over : (most : ℕ) (z : ℤ) → most < unsigned_abs z → natural_up_to most z ≡ None
unfolding natural_up_to
natural_over most (pos n) over = rw (lt-leb n most over) refl
natural_over most (negsuc n) over = refl

pub natural_negative : (most : ℕ) (z : ℤ) → z <ℤ pos 0 → natural_up_to most z ≡ None
unfolding natural_up_to
natural_negative most (pos n) sign = absurd (omega (arith, ints))
natural_negative most (negsuc n) sign = refl

-- a number within a bound below 2^31 fits 32 bits
pub fits_within : (most : ℕ) (z : ℤ) → unsigned_abs z ≤ most → most < 2 ^ 31 → FitsSigned w32 z
fits_within most (pos n) le small = search (arith, ints)
fits_within most (negsuc n) le small = search (arith, ints)

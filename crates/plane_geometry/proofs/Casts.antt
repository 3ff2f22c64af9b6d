-- What the code's casts leave as it is.
use Rattle.std.proofs.Common.{◌≡◌, ◌-ℤ◌, ◌≤ℤ◌, neg_ℤ, pos, ℤ, ◌<◌, ◌^◌, unsigned_abs, arith, ap, refl, ◌∙◌, to_z, of_z, w8}
use Rattle.std.specs.Int.{int_signum}
use Rattle.std.proofs.lemmas.Int.{ints}
use mir.Syntax.{w128}

-- a difference of two products
difference : (m n : ℤ) → unsigned_abs m < 2 ^ 64 → unsigned_abs n < 2 ^ 64 → to_z w128 (of_z w128 (to_z w128 (of_z w128 m) -ℤ to_z w128 (of_z w128 n))) ≡ m -ℤ n
difference m n h k = omega (arith, ints)

-- a sign
sign : (z : ℤ) → neg_ℤ (pos 1) ≤ℤ z → z ≤ℤ pos 1 → to_z w8 (of_z w8 (to_z w128 (of_z w128 z))) ≡ z
sign z h k = omega (arith, ints)

-- the sign of a difference of two products
pub sign_of_difference : (m n s p q : ℤ) → m ≡ p → n ≡ q → unsigned_abs m < 2 ^ 64 → unsigned_abs n < 2 ^ 64 → s ≡ int_signum (to_z w128 (of_z w128 (to_z w128 (of_z w128 m) -ℤ to_z w128 (of_z w128 n)))) → neg_ℤ (pos 1) ≤ℤ s → s ≤ℤ pos 1 → to_z w8 (of_z w8 (to_z w128 (of_z w128 s))) ≡ int_signum (p -ℤ q)
sign_of_difference m n s p q f g h k e low high =
    sign s low high ∙ e ∙ ap int_signum (difference m n h k) ∙ rw (f, g) refl

-- Products and quotients of whole numbers.
use Rattle.std.proofs.Common.{◌≡◌, ℕ, ◌+◌, ◌*◌, ◌/◌, ◌<◌, ◌≤◌, zero, suc, ℤ, pos, negsuc, ◌-ℤ◌, ◌*ℤ◌, refl, sym, ap, ◌∙◌, subst, arith}
use Rattle.std.specs.Prelude.{◌<ℤ◌, int_div, neg_ℤ}
use Rattle.std.proofs.lemmas.Int.{ints}
use Rattle.std.proofs.Math.Nat.{mul-pos, zero-div, zero-mul, mul-div_cancel_left}
use Rattle.std.proofs.Math.IntN.{pos-*ℤ-pos}

-- a product of a number above 0 and one that isn't 0
pub product_above : (a : ℤ) (n : ℕ) → pos 0 <ℤ a → 1 ≤ n → pos 0 <ℤ (a *ℤ pos n)
product_above (pos m) n above some =
    let product : 0 < m * n = mul-pos (omega (arith, ints, above)) some in
    subst (λ (z : ℤ). pos 0 <ℤ z) (sym (pos-*ℤ-pos m n)) (omega (arith, ints, product))
product_above (negsuc m) n above some = absurd (omega (arith, ints, above))

nothing_divided : (d : ℤ) → int_div (pos 0) d ≡ pos 0
nothing_divided (pos n) = ap pos (zero-div n)
nothing_divided (negsuc n) = ap (λ (m : ℕ). neg_ℤ (pos m)) (zero-div (suc n))

pub nothing_scaled : (n : ℕ) (d : ℤ) → int_div (pos 0 *ℤ pos n) d ≡ pos 0
nothing_scaled n d = ap (λ (z : ℤ). int_div z d) (pos-*ℤ-pos 0 n ∙ ap pos (zero-mul n)) ∙ nothing_divided d

-- a product divided by its first factor
pub product_divided : (d : ℤ) (n : ℕ) → pos 0 <ℤ d → int_div (d *ℤ pos n) d ≡ pos n
product_divided (pos m) n above =
    ap (λ (z : ℤ). int_div z (pos m)) (pos-*ℤ-pos m n) ∙ ap pos (mul-div_cancel_left n (omega (arith, ints, above)))
product_divided (negsuc m) n above = absurd (omega (arith, ints, above))

pub no_distance : (z : ℤ) → z -ℤ z ≡ pos 0
no_distance z = omega (arith, ints)

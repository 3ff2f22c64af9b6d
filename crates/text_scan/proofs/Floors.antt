-- The greatest whole number that is at most a quotient.
use Rattle.std.proofs.Common.{◌≡◌, ℕ, zero, suc, ◌+◌, ◌-◌, ◌*◌, ◌/◌, ◌<◌, ◌≤◌, refl, arith, ◌^◌, lit<, pow-add}
use Rattle.std.specs.Prelude.{ℤ, pos, negsuc, neg_ℤ, ◌+ℤ◌, ◌*ℤ◌, ◌≤ℤ◌, ◌<ℤ◌}
use Rattle.std.proofs.lemmas.Int.{ints, by_lt_z}
use Rattle.std.proofs.lemmas.Nat.{div-add-mod', div_below}
use native.Mathlib.Nat.{one-le-pow, pow-le-pow_right}
use Rattle.std.proofs.Math.Nat.{mul-le-mul_right}
use Rattle.text_scan.proofs.Scans.{below_limit}
use Rattle.text_scan.specs.Depth.{IsFloor}

-- a product with a unit keeps the order
times_mono : (x y : ℤ) (unit : ℕ) → x ≤ℤ y → (x *ℤ pos unit) ≤ℤ (y *ℤ pos unit)
times_mono (pos a) (pos b) unit h =
    let le : a ≤ b = omega (arith, ints, h) in
    omega (arith, ints, mul-le-mul_right unit le)
times_mono (pos a) (negsuc b) unit h = absurd (omega (arith, ints, h))
times_mono (negsuc a) (pos b) unit h = omega (arith, ints)
times_mono (negsuc a) (negsuc b) unit h =
    let le : suc b ≤ suc a = omega (arith, ints, h) in
    omega (arith, ints, mul-le-mul_right unit le)

not_below : (amount : ℤ) (unit : ℕ) (q r : ℤ) → IsFloor amount unit q → IsFloor amount unit r → q <ℤ r → ⊥
not_below amount unit q r f g lt =
    let le : (q +ℤ pos 1) ≤ℤ r = omega (arith, ints, lt) in
    omega (arith, ints, times_mono (q +ℤ pos 1) r unit le, f.greatest, g.at_most)

pub floor_unique : (amount : ℤ) (unit : ℕ) (q r : ℤ) → IsFloor amount unit q → IsFloor amount unit r → q ≡ r
floor_unique amount unit q r f g =
    by_lt_z q r (λ lt. absurd (not_below amount unit q r f g lt)) (λ le. by_lt_z r q (λ lt. absurd (not_below amount unit r q g f lt)) (λ ge. omega (arith, ints, le, ge)))

pub floor_down : (amount unit : ℕ) → 0 < unit → IsFloor (pos amount) unit (pos (amount / unit))
floor_down amount unit some =
    let parts = div-add-mod' amount unit in
    record { at_most = omega (arith, ints, parts); greatest = omega (arith, ints, parts) }

times-neg : (c unit : ℕ) → neg_ℤ (pos c) *ℤ pos unit ≡ neg_ℤ (pos (c * unit))
times-neg zero unit = let none : 0 * unit ≡ 0 = omega arith in rw none refl
times-neg (suc k) unit = refl

after-neg : (k : ℕ) → neg_ℤ (pos (suc k)) +ℤ pos 1 ≡ neg_ℤ (pos k)
after-neg k = omega (arith, ints)

floor_up_from : (amount unit c : ℕ) → 0 < unit → amount ≤ c * unit → c * unit < amount + unit
    → IsFloor (neg_ℤ (pos amount)) unit (neg_ℤ (pos c))
floor_up_from amount unit zero some low high =
    let above : neg_ℤ (pos amount) <ℤ pos (1 * unit) = omega (arith, ints) in
    record { at_most = rw (times-neg zero unit) (omega (arith, ints)); greatest = above }
floor_up_from amount unit (suc k) some low high =
    record { at_most = rw (times-neg (suc k) unit) (omega (arith, ints)); greatest = rw (after-neg k, times-neg k unit) (omega (arith, ints)) }

pub floor_up : (amount unit : ℕ) → 0 < unit
    → IsFloor (neg_ℤ (pos amount)) unit (neg_ℤ (pos ((amount + (unit - 1)) / unit)))
floor_up amount unit some =
    let parts = div-add-mod' (amount + (unit - 1)) unit in
    floor_up_from amount unit ((amount + (unit - 1)) / unit) some (omega (arith, parts)) (omega (arith, parts))

-- ---- bounds

pub floor_small : (amount places : ℕ) → amount < 10 ^ (6 + places) → 100 * amount / 10 ^ places < 10 ^ 8
floor_small amount places small =
    div_below (100 * amount) (10 ^ places) (10 ^ 8) (one-le-pow places 10 (lit< tt)) (omega (arith, pow-add 10 6 places))

pub ceiling_small : (amount places : ℕ) → amount < 10 ^ (6 + places)
    → (100 * amount + (10 ^ places - 1)) / 10 ^ places < 10 ^ 8 + 1
ceiling_small amount places small =
    div_below (100 * amount + (10 ^ places - 1)) (10 ^ places) (10 ^ 8 + 1) (one-le-pow places 10 (lit< tt)) (omega (arith, pow-add 10 6 places, one-le-pow places 10 (lit< tt)))

pub amount_small : (amount places : ℕ) → amount < 10 ^ (6 + places) → places ≤ 20 → amount < 10 ^ 26
amount_small amount places small few = below_limit amount (6 + places) small (omega arith)

pub unit_small : (places : ℕ) → places ≤ 20 → (1 ≤ 10 ^ places) × (10 ^ places ≤ 10 ^ 20)
unit_small places few = (one-le-pow places 10 (lit< tt), pow-le-pow_right {n = 10} (lit< tt) few)

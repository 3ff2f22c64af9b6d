-- Depths in text are small.
use Rattle.std.proofs.Common.{ℕ, ◌+◌, ◌*◌, ◌^◌, ◌<◌, ℤ, pos, ◌≤ℤ◌, Bool, true, false, List, [], ◌∷◌, ◌++◌, length, Option, Some, None, IfSome, arith, length-append}
use Rattle.std.proofs.lemmas.Int.{ints}
use Rattle.std.specs.Str.Parse.{AllDigits}
use native.Mathlib.Nat.{one-le-pow}
use Rattle.std.proofs.Common.{lit<}
use Rattle.common_lemmas.proofs.Digits.{test_from_AllDigits, value_short}
use Rattle.text_scan.specs.Number.{value_of}
use Rattle.text_scan.specs.Depth.{SpellsDepth, IsFloor, with_sign}
use Rattle.text_scan.proofs.Floors.{floor_unique, floor_down, floor_up, floor_small}

small_floor : (negative : Bool) (amount places : ℕ) (depth : ℤ) → amount < 10 ^ (6 + places) → IsFloor (with_sign negative (100 * amount)) (10 ^ places) depth → depth ≤ℤ pos 100000000
small_floor true amount places depth small floor =
    let e = floor_unique _ _ _ _ floor (floor_up (100 * amount) (10 ^ places) (one-le-pow places 10 (lit< tt))) in
    omega (arith, ints, e)
small_floor false amount places depth small floor =
    let e = floor_unique _ _ _ _ floor (floor_down (100 * amount) (10 ^ places) (one-le-pow places 10 (lit< tt))) in
    omega (arith, ints, e, floor_small amount places small)

digits_append : (xs ys : List ℕ) → AllDigits 10 xs → AllDigits 10 ys → AllDigits 10 (xs ++ ys)
digits_append [] ys h k = k
digits_append (x ∷ xs) ys h k = (h.0, digits_append xs ys h.1 k)

small_depth : (text : List ℕ) (depth : ℤ) → SpellsDepth text depth → depth ≤ℤ pos 100000000
small_depth text depth s =
    small_floor s.negative (value_of (s.whole ++ s.decimals)) (length s.decimals) depth
    (value_short (s.whole ++ s.decimals) (6 + length s.decimals) (test_from_AllDigits (s.whole ++ s.decimals) (digits_append s.whole s.decimals s.whole_digits.0 s.decimal_digits.0)) (omega (arith, length-append s.whole s.decimals, s.whole_digits.1)))
    s.rounded

pub small_answer : (text : List ℕ) (answer : Option ℤ) → IfSome answer (SpellsDepth text) → IfSome answer (λ depth. depth ≤ℤ pos 100000000)
small_answer text None s = tt
small_answer text (Some depth) s = small_depth text depth s

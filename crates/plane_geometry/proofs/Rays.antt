-- Where a segment crosses a ray, and how it turns at the ray's end.
use Rattle.std.proofs.Common.{◌≡◌, ℤ, pos, negsuc, suc, zero, ◌+ℤ◌, ◌-ℤ◌, ◌*ℤ◌, neg_ℤ, ◌≤ℤ◌, ◌<ℤ◌, ap, sym, ◌∙◌, refl, arith, true, false, int_lt, int_le, to_z, of_z, w8}
use Rattle.std.specs.Int.{int_signum}
use mathlib.Core.Bool.{xor}
use Rattle.std.proofs.lemmas.Int.{ints, by_lt_z}
use borrow.Author.Differences.{true_is_lt, false_is_lt}
use Rattle.plane_geometry.specs.declared.point.Pt.{Pt}
use Rattle.plane_geometry.specs.EvenOdd.{crosses, passes_beyond}
use Rattle.plane_geometry.specs.Orientation.{turn}
use Rattle.plane_geometry.proofs.Integers.{times_sum, times_neg, times_comm}

-- differences that are equal have one sign
same_order : (a b c d : ℤ) → b -ℤ a ≡ d -ℤ c → int_lt a b ≡ int_lt c d
same_order a b c d e = grind (arith, ints)

pub lt_yes : (a b : ℤ) → a <ℤ b → int_lt a b ≡ true
lt_yes a b h = sym (true_is_lt a b (omega (arith, ints)))

lt_no : (a b : ℤ) → b ≤ℤ a → int_lt a b ≡ false
lt_no a b h = sym (false_is_lt a b (omega (arith, ints)))

-- the crossing less p.x, times the segment's height
crossing : (p a b : Pt) → ((a.x *ℤ (b.y -ℤ a.y)) +ℤ ((p.y -ℤ a.y) *ℤ (b.x -ℤ a.x))) -ℤ (p.x *ℤ (b.y -ℤ a.y)) ≡ turn a b p
crossing p a b =
    let h = b.y -ℤ a.y in
    omega (arith, ints, times_sum h p.x (neg_ℤ a.x), times_neg h a.x, times_comm h a.x, times_comm h p.x, times_comm (p.y -ℤ a.y) (b.x -ℤ a.x))

passes_up : (p a b : Pt) → a.y <ℤ b.y → passes_beyond p (a, b) ≡ int_lt (pos 0) (turn a b p)
passes_up p a b h =
    let rise = b.y -ℤ a.y in
    let up = lt_yes (pos 0) rise (omega (arith, ints)) in
    rw up (same_order (p.x *ℤ rise) ((a.x *ℤ rise) +ℤ ((p.y -ℤ a.y) *ℤ (b.x -ℤ a.x))) (pos 0) (turn a b p) (omega (arith, ints, crossing p a b)))

passes_down : (p a b : Pt) → b.y <ℤ a.y → passes_beyond p (a, b) ≡ int_lt (turn a b p) (pos 0)
passes_down p a b h =
    let rise = b.y -ℤ a.y in
    let down = lt_no (pos 0) rise (omega (arith, ints)) in
    rw down (same_order ((a.x *ℤ rise) +ℤ ((p.y -ℤ a.y) *ℤ (b.x -ℤ a.x))) (p.x *ℤ rise) (turn a b p) (pos 0) (omega (arith, ints, crossing p a b)))

-- a segment that rises past p crosses where p is on its left
pub crosses_rising : (p a b : Pt) → a.y ≤ℤ p.y → p.y <ℤ b.y → crosses p (a, b) ≡ int_lt (pos 0) (turn a b p)
unfolding xor
crosses_rising p a b h k =
    let from : int_le a.y p.y ≡ true = grind (arith, ints) in
    let to : int_le b.y p.y ≡ false = grind (arith, ints) in
    rw (from, to) (passes_up p a b (omega (arith, ints)))

-- a segment that falls past p crosses where p is on its right
pub crosses_falling : (p a b : Pt) → p.y <ℤ a.y → b.y ≤ℤ p.y → crosses p (a, b) ≡ int_lt (turn a b p) (pos 0)
unfolding xor
crosses_falling p a b h k =
    let from : int_le a.y p.y ≡ false = grind (arith, ints) in
    let to : int_le b.y p.y ≡ true = grind (arith, ints) in
    rw (from, to) (passes_down p a b (omega (arith, ints)))

-- a segment below p, or above it, doesn't cross
pub crosses_below : (p a b : Pt) → a.y ≤ℤ p.y → b.y ≤ℤ p.y → crosses p (a, b) ≡ false
unfolding xor
crosses_below p a b h k =
    let from : int_le a.y p.y ≡ true = grind (arith, ints) in
    let to : int_le b.y p.y ≡ true = grind (arith, ints) in
    rw (from, to) refl

pub crosses_above : (p a b : Pt) → p.y <ℤ a.y → p.y <ℤ b.y → crosses p (a, b) ≡ false
unfolding xor
crosses_above p a b h k =
    let from : int_le a.y p.y ≡ false = grind (arith, ints) in
    let to : int_le b.y p.y ≡ false = grind (arith, ints) in
    rw (from, to) refl

-- a number and its sign are above 0 alike, and below it alike
pub sign_above : (z r : ℤ) → r ≡ int_signum z → int_lt (pos 0) (to_z w8 (of_z w8 r)) ≡ int_lt (pos 0) z
sign_above (pos zero) r e = rw e refl
sign_above (pos (suc n)) r e =
    let one : r ≡ pos 1 = e ∙ ap pos (omega arith) in
    rw one (sym (lt_yes (pos 0) (pos (suc n)) (omega (arith, ints))))
sign_above (negsuc n) r e = rw e refl

pub sign_below : (z r : ℤ) → r ≡ int_signum z → int_lt (to_z w8 (of_z w8 r)) (pos 0) ≡ int_lt z (pos 0)
sign_below (pos zero) r e = rw e refl
sign_below (pos (suc n)) r e =
    let one : r ≡ pos 1 = e ∙ ap pos (omega arith) in
    rw one (sym (lt_no (pos (suc n)) (pos 0) (omega (arith, ints))))
sign_below (negsuc n) r e = rw e refl

-- one number is at most another, or above it
pub by_order : {P : Type 0} (a b : ℤ) → (a ≤ℤ b → P) → (b <ℤ a → P) → P
by_order a b f g = by_lt_z b a g f

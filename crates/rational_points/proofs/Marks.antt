-- Marked places: those between the heights of two points, on the side of greater x of the line through them.
use Rattle.std.proofs.Common.{◌≡◌, ℕ, ℤ, pos, ◌+ℤ◌, ◌-ℤ◌, ◌*ℤ◌, neg_ℤ, ◌≤ℤ◌, ◌<ℤ◌, unsigned_abs, int_lt, int_le, Bool, true, false, ◌&&◌, ap, sym, ◌∙◌, refl, arith}
use Rattle.std.proofs.lemmas.Int.{ints}
use Rattle.plane_geometry.specs.declared.point.Pt.{Pt}
use Rattle.plane_geometry.specs.Orientation.{turn}
use Rattle.plane_geometry.specs.EvenOdd.{crosses}
use Rattle.plane_geometry.proofs.Integers.{times_sum, times_neg, neg_times, times_comm}
use Rattle.plane_geometry.proofs.Rays.{lt_yes, by_order, crosses_rising, crosses_falling, crosses_below, crosses_above}
use Rattle.rational_points.proofs.Multiples.{lt_no}
use Rattle.rational_points.proofs.Levels.{Level, same_side, at_first_begin, at_first_end, at_second_begin, at_second_end}
use Rattle.rational_points.proofs.CommonPoints.{Common, common_of_level, common_turned}
use Rattle.rational_points.proofs.Parity.{differ, differ_comm, with_itself}

-- v is higher than q, at most as high as p, and to the right of the way up from q to p
abbrev pub marked : Pt → Pt → Pt → Bool
marked p q v = int_lt q.y v.y && (int_le v.y p.y && int_lt (turn q p v) (pos 0))

le_yes : (a b : ℤ) → a ≤ℤ b → int_le a b ≡ true
le_yes a b h = grind (arith, ints)

le_no : (a b : ℤ) → b <ℤ a → int_le a b ≡ false
le_no a b h = grind (arith, ints)

both_known : (a b c : Bool) {x y : Bool} → a ≡ x → b ≡ y → (a && (b && c)) ≡ (x && (y && c))
both_known a b c e f = rw (e, f) refl

low : (p q v : Pt) → v.y ≤ℤ q.y → marked p q v ≡ false
low p q v h = ap (λ (b : Bool). b && (int_le v.y p.y && int_lt (turn q p v) (pos 0))) (lt_no q.y v.y h)

high : (p q v : Pt) → q.y ≤ℤ p.y → p.y <ℤ v.y → marked p q v ≡ false
high p q v order h =
    both_known (int_lt q.y v.y) (int_le v.y p.y) (int_lt (turn q p v) (pos 0)) (lt_yes q.y v.y (omega (arith, ints, order, h))) (le_no v.y p.y h)

opposite : (z : ℤ) → int_lt z (pos 0) ≡ int_lt (pos 0) (neg_ℤ z)
opposite z = grind (arith, ints)

within : (p q v : Pt) → q.y <ℤ v.y → v.y ≤ℤ p.y → marked p q v ≡ int_lt (pos 0) (neg_ℤ (turn q p v))
within p q v h k =
    both_known (int_lt q.y v.y) (int_le v.y p.y) (int_lt (turn q p v) (pos 0)) (lt_yes q.y v.y h) (le_yes v.y p.y k)
    ∙ opposite (turn q p v)

-- ---- the levels of four points

length_is : (a b : ℤ) → a ≤ℤ b → b -ℤ a ≡ pos (unsigned_abs (b -ℤ a))
length_is a b h = omega (arith, ints)

turn_first : (u v h w a : ℤ) (n s : ℕ) → v ≡ pos s → h ≡ pos n → w ≡ neg_ℤ a → (u *ℤ pos s) +ℤ (pos n *ℤ a) ≡ (u *ℤ v) -ℤ (h *ℤ w)
turn_first u v h w a n s e f g = rw (e, f, g) (omega (arith, ints, times_neg (pos n) a))

turn_second : (u v h w b x : ℤ) (n t : ℕ) → v ≡ pos t → h ≡ pos n → u ≡ neg_ℤ b → w ≡ x → (pos n *ℤ x) +ℤ (b *ℤ pos t) ≡ neg_ℤ ((u *ℤ v) -ℤ (h *ℤ w))
turn_second u v h w b x n t e f g k = rw (e, f, g, k) (omega (arith, ints, neg_times b (pos t)))

-- the level of the ways from q to p and from c to e
abbrev LevelOf : Pt → Pt → Pt → Pt → ℤ → Type 0
LevelOf q p c e x = Level (c.x -ℤ q.x) (q.x -ℤ p.x) (e.x -ℤ c.x) (c.y -ℤ q.y) (q.y -ℤ p.y) (e.y -ℤ c.y) x

at_q : (p q c e : Pt) → c.y ≤ℤ q.y → q.y ≤ℤ e.y → c.y <ℤ e.y → LevelOf q p c e (turn c e q)
at_q p q c e from to rises =
    at_first_begin (unsigned_abs (e.y -ℤ c.y)) (unsigned_abs (q.y -ℤ c.y)) (c.x -ℤ q.x) (q.x -ℤ p.x) (e.x -ℤ c.x) (c.y -ℤ q.y) (q.y -ℤ p.y) (e.y -ℤ c.y) (turn c e q)
    (omega (arith, ints, rises)) (omega (arith, ints, from, to)) (length_is c.y e.y (omega (arith, ints, rises))) (omega (arith, ints, from))
    (turn_first (e.x -ℤ c.x) (q.y -ℤ c.y) (e.y -ℤ c.y) (q.x -ℤ c.x) (c.x -ℤ q.x) _ _ (length_is c.y q.y from) (length_is c.y e.y (omega (arith, ints, rises))) (omega (arith, ints)))

at_p : (p q c e : Pt) → c.y ≤ℤ p.y → p.y ≤ℤ e.y → c.y <ℤ e.y → LevelOf q p c e (turn c e p)
at_p p q c e from to rises =
    at_first_end (unsigned_abs (e.y -ℤ c.y)) (unsigned_abs (p.y -ℤ c.y)) (c.x -ℤ q.x) (q.x -ℤ p.x) (e.x -ℤ c.x) (c.y -ℤ q.y) (q.y -ℤ p.y) (e.y -ℤ c.y) (turn c e p)
    (omega (arith, ints, rises)) (omega (arith, ints, from, to)) (length_is c.y e.y (omega (arith, ints, rises))) (omega (arith, ints, from))
    (turn_first (e.x -ℤ c.x) (p.y -ℤ c.y) (e.y -ℤ c.y) (p.x -ℤ c.x) ((c.x -ℤ q.x) +ℤ (q.x -ℤ p.x)) _ _ (length_is c.y p.y from) (length_is c.y e.y (omega (arith, ints, rises))) (omega (arith, ints)))

at_c : (p q c e : Pt) → q.y ≤ℤ c.y → c.y ≤ℤ p.y → q.y <ℤ p.y → LevelOf q p c e (neg_ℤ (turn q p c))
at_c p q c e from to rises =
    at_second_begin (unsigned_abs (p.y -ℤ q.y)) (unsigned_abs (c.y -ℤ q.y)) (c.x -ℤ q.x) (q.x -ℤ p.x) (e.x -ℤ c.x) (c.y -ℤ q.y) (q.y -ℤ p.y) (e.y -ℤ c.y) (neg_ℤ (turn q p c))
    (omega (arith, ints, rises)) (omega (arith, ints, from, to)) (omega (arith, ints, rises)) (length_is q.y c.y from)
    (turn_second (p.x -ℤ q.x) (c.y -ℤ q.y) (p.y -ℤ q.y) (c.x -ℤ q.x) (q.x -ℤ p.x) (c.x -ℤ q.x) _ _ (length_is q.y c.y from) (length_is q.y p.y (omega (arith, ints, rises))) (omega (arith, ints)) refl)

at_e : (p q c e : Pt) → q.y ≤ℤ e.y → e.y ≤ℤ p.y → q.y <ℤ p.y → LevelOf q p c e (neg_ℤ (turn q p e))
at_e p q c e from to rises =
    at_second_end (unsigned_abs (p.y -ℤ q.y)) (unsigned_abs (e.y -ℤ q.y)) (c.x -ℤ q.x) (q.x -ℤ p.x) (e.x -ℤ c.x) (c.y -ℤ q.y) (q.y -ℤ p.y) (e.y -ℤ c.y) (neg_ℤ (turn q p e))
    (omega (arith, ints, rises)) (omega (arith, ints, from, to)) (omega (arith, ints, rises)) (omega (arith, ints, from))
    (turn_second (p.x -ℤ q.x) (e.y -ℤ q.y) (p.y -ℤ q.y) (e.x -ℤ q.x) (q.x -ℤ p.x) ((c.x -ℤ q.x) +ℤ (e.x -ℤ c.x)) _ _ (length_is q.y e.y from) (length_is q.y p.y (omega (arith, ints, rises))) (omega (arith, ints)) (omega (arith, ints)))

-- ---- what a segment crosses

alike : {a b c d a' b' c' d' : Bool} → a ≡ a' → b ≡ b' → c ≡ c' → d ≡ d' → differ a' b' ≡ differ c' d' → differ a b ≡ differ c d
alike e f g k h = (λ i. differ (e i) (f i)) ∙ h ∙ sym (λ i. differ (g i) (k i))

none_differs : {a b : Bool} → a ≡ b → differ a b ≡ false
none_differs {a} {b} e = ap (λ (x : Bool). differ x b) e ∙ with_itself b

-- a segment that doesn't fall, and has no point in common with the one from q up to p
rising : (p q c e : Pt) → q.y ≤ℤ p.y → c.y ≤ℤ e.y → ¬ Common q p c e → differ (crosses p (c, e)) (crosses q (c, e)) ≡ differ (marked p q c) (marked p q e)
rising p q c e order rises apart =
    by_order c.y q.y
    (λ c_low. by_order e.y q.y
    (λ e_low. alike (crosses_below p c e (omega (arith, ints, c_low, order)) (omega (arith, ints, e_low, order))) (crosses_below q c e c_low e_low) (low p q c c_low) (low p q e e_low) refl)
    (λ e_over. by_order e.y p.y
    (λ e_in. alike (crosses_below p c e (omega (arith, ints, c_low, order)) e_in) (crosses_rising q c e c_low e_over) (low p q c c_low) (within p q e e_over e_in)
    (same (turn c e q) (neg_ℤ (turn q p e)) (at_q p q c e c_low (omega (arith, ints, e_over)) (omega (arith, ints, c_low, e_over))) (at_e p q c e (omega (arith, ints, e_over)) e_in (omega (arith, ints, e_over, e_in)))))
    (λ e_high. alike (crosses_rising p c e (omega (arith, ints, c_low, order)) e_high) (crosses_rising q c e c_low e_over) (low p q c c_low) (high p q e order e_high)
    (none_differs (same (turn c e p) (turn c e q) (at_p p q c e (omega (arith, ints, c_low, order)) (omega (arith, ints, e_high)) (omega (arith, ints, c_low, e_over))) (at_q p q c e c_low (omega (arith, ints, e_over)) (omega (arith, ints, c_low, e_over))))))))
    (λ c_over. by_order c.y p.y
    (λ c_in. by_order e.y p.y
    (λ e_in. alike (crosses_below p c e c_in e_in) (crosses_above q c e c_over (omega (arith, ints, c_over, rises))) (within p q c c_over c_in) (within p q e (omega (arith, ints, c_over, rises)) e_in)
    (sym (none_differs (same (neg_ℤ (turn q p c)) (neg_ℤ (turn q p e)) (at_c p q c e (omega (arith, ints, c_over)) c_in (omega (arith, ints, c_over, c_in))) (at_e p q c e (omega (arith, ints, c_over, rises)) e_in (omega (arith, ints, c_over, c_in)))))))
    (λ e_high. alike (crosses_rising p c e c_in e_high) (crosses_above q c e c_over (omega (arith, ints, c_over, rises))) (within p q c c_over c_in) (high p q e order e_high)
    (ap (λ (b : Bool). differ b false) (same (turn c e p) (neg_ℤ (turn q p c)) (at_p p q c e c_in (omega (arith, ints, e_high)) (omega (arith, ints, c_in, e_high))) (at_c p q c e (omega (arith, ints, c_over)) c_in (omega (arith, ints, c_over, c_in)))))))
    (λ c_high. alike (crosses_above p c e c_high (omega (arith, ints, c_high, rises))) (crosses_above q c e c_over (omega (arith, ints, c_over, rises))) (high p q c order c_high) (high p q e order (omega (arith, ints, c_high, rises))) refl))
  where
    same : (x y : ℤ) → LevelOf q p c e x → LevelOf q p c e y → int_lt (pos 0) x ≡ int_lt (pos 0) y
    same x y f g =
        same_side (c.x -ℤ q.x) (q.x -ℤ p.x) (e.x -ℤ c.x) (c.y -ℤ q.y) (q.y -ℤ p.y) (e.y -ℤ c.y) x y (λ l. apart (common_of_level q p c e l)) f g

-- ---- a segment from its other end

turned_sum : (u v x y : ℤ) → (neg_ℤ u *ℤ (y -ℤ v)) -ℤ (neg_ℤ v *ℤ (x -ℤ u)) ≡ neg_ℤ ((u *ℤ y) -ℤ (v *ℤ x))
turned_sum u v x y =
    omega (arith, ints, neg_times u (y -ℤ v), times_sum u y (neg_ℤ v), times_neg u v, neg_times v (x -ℤ u), times_sum v x (neg_ℤ u), times_neg v u, times_comm u v)

turn_turned : (a b p : Pt) → turn b a p ≡ neg_ℤ (turn a b p)
turn_turned a b p =
    let u : a.x -ℤ b.x ≡ neg_ℤ (b.x -ℤ a.x) = omega (arith, ints) in
    let v : a.y -ℤ b.y ≡ neg_ℤ (b.y -ℤ a.y) = omega (arith, ints) in
    let x : p.x -ℤ b.x ≡ (p.x -ℤ a.x) -ℤ (b.x -ℤ a.x) = omega (arith, ints) in
    let y : p.y -ℤ b.y ≡ (p.y -ℤ a.y) -ℤ (b.y -ℤ a.y) = omega (arith, ints) in
    put (a.x -ℤ b.x) (a.y -ℤ b.y) (p.x -ℤ b.x) (p.y -ℤ b.y) (b.x -ℤ a.x) (b.y -ℤ a.y) (p.x -ℤ a.x) (p.y -ℤ a.y) u v x y
  where
    put : (u' v' x' y' u v x y : ℤ) → u' ≡ neg_ℤ u → v' ≡ neg_ℤ v → x' ≡ x -ℤ u → y' ≡ y -ℤ v → (u' *ℤ y') -ℤ (v' *ℤ x') ≡ neg_ℤ ((u *ℤ y) -ℤ (v *ℤ x))
    put u' v' x' y' u v x y e f g h = rw (e, f, g, h) (turned_sum u v x y)

-- a segment that falls crosses where it does as one that rises
crosses_turned : (p a b : Pt) → b.y ≤ℤ a.y → crosses p (a, b) ≡ crosses p (b, a)
crosses_turned p a b falls =
    by_order a.y p.y
    (λ from. crosses_below p a b from (omega (arith, ints, from, falls)) ∙ sym (crosses_below p b a (omega (arith, ints, from, falls)) from))
    (λ from. by_order b.y p.y
    (λ to. crosses_falling p a b from to ∙ opposite (turn a b p) ∙ ap (int_lt (pos 0)) (sym (turn_turned a b p)) ∙ sym (crosses_rising p b a to from))
    (λ to. crosses_above p a b from to ∙ sym (crosses_above p b a to from)))

-- a segment that has no point in common with the one from q up to p crosses one of their rays and not the other
-- where one of its ends is marked and the other isn't
pub crosses_by_marks : (p q a b : Pt) → q.y ≤ℤ p.y → ¬ Common q p a b → differ (crosses p (a, b)) (crosses q (a, b)) ≡ differ (marked p q a) (marked p q b)
crosses_by_marks p q a b order apart =
    by_order a.y b.y
    (λ rises. rising p q a b order rises apart)
    (λ falls.
    let down : b.y ≤ℤ a.y = omega (arith, ints, falls) in
    (λ i. differ (crosses_turned p a b down i) (crosses_turned q a b down i))
    ∙ rising p q b a order down (λ common. apart (common_turned q p b a common))
    ∙ differ_comm (marked p q b) (marked p q a))

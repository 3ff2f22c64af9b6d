-- Segments by their heights: those that don't reach a point's height say nothing of what is inside.
use Rattle.std.proofs.Common.{◌≡◌, ℕ, ◌+◌, ◌%◌, ℤ, ◌≤ℤ◌, int_le, Bool, true, false, cond, ◌&&◌, ◌||◌, List, [], ◌∷◌, ◌++◌, filter, count_by, refl, sym, ap, ◌∙◌, subst, arith}
use mathlib.Core.Bool.{xor}
use Rattle.std.specs.Prelude.{◌==◌}
use Rattle.std.specs.List.{list_any, All, Contains}
use Rattle.std.proofs.lemmas.Int.{ints}
use Rattle.std.proofs.lemmas.Bool.{false≢true}
use Rattle.std.proofs.lemmas.List.Elements.{All-push}
use Rattle.std.proofs.lemmas.List.Sums.{sum_by-cons}
use Rattle.std.proofs.lemmas.Map.Views.{any-filter_same}
use Rattle.plane_geometry.specs.declared.point.Pt.{Pt}
use Rattle.plane_geometry.specs.EvenOdd.{all_segments, crosses, passes_beyond}
use Rattle.plane_bounds.specs.Inside.{is_on, is_between}
use Rattle.ring_strips.specs.Strips.{StripValue, reaches, is_among, IsLevelWith, IsStrip, Tells}

-- ---- counting

unless : (a b : Bool) → (a ≡ true → b ≡ true) → b ≡ false → a ≡ false
unless true b h e = absurd (false≢true (sym e ∙ h refl))
unless false b h e = refl

-- of elements that are kept where they count, as many count as of all
pub count_kept : {X : Type 0} (f g : X → Bool) → ((x : X) → f x ≡ true → g x ≡ true) → (xs : List X) → count_by f (filter g xs) ≡ count_by f xs
count_kept {X} f g h [] = refl
count_kept {X} f g h (x ∷ xs) =
    one (g x) (unless (f x) (g x) (h x)) ∙ ap (λ (n : ℕ). cond (f x) 1 0 + n) (count_kept f g h xs) ∙ sym (sum_by-cons (λ (y : X). cond (f y) 1 0) x xs)
  where
    one : (b : Bool) → (b ≡ false → f x ≡ false) → count_by f (cond b (x ∷ filter g xs) (filter g xs)) ≡ cond (f x) 1 0 + count_by f (filter g xs)
    one true k = sum_by-cons (λ (y : X). cond (f y) 1 0) x (filter g xs)
    one false k = rw (k refl) (omega arith)

-- ---- heights

below : (n y high : ℤ) → y ≤ℤ high → int_le n y ≡ true → int_le n high ≡ true
below n y high h e = grind (arith, ints)

above : (low y n : ℤ) → low ≤ℤ y → int_le y n ≡ true → int_le low n ≡ true
above low y n h e = grind (arith, ints)

beyond : (low y n : ℤ) → low ≤ℤ y → int_le n y ≡ false → int_le low n ≡ true
beyond low y n h e = grind (arith, ints)

either_left : (a b c d : Bool) → a ≡ true → d ≡ true → ((a || b) && (c || d)) ≡ true
either_left true b true true e f = refl
either_left true b false true e f = refl
either_left false b c d e f = absurd (false≢true e)
either_left true b c false e f = absurd (false≢true f)

either_right : (a b c d : Bool) → b ≡ true → c ≡ true → ((a || b) && (c || d)) ≡ true
either_right true true true d e f = refl
either_right false true true d e f = refl
either_right a false c d e f = absurd (false≢true e)
either_right a true false d e f = absurd (false≢true f)

-- one end at most as high as the point, and one at least
between_reaches : (low high y a b : ℤ) → low ≤ℤ y → y ≤ℤ high → is_between y a b ≡ true → ((int_le a high || int_le b high) && (int_le low a || int_le low b)) ≡ true
between_reaches low high y a b south north e =
    cases (int_le a y) (int_le y b) (int_le b y) (int_le y a) (below a y high north) (above low y b south) (below b y high north) (above low y a south) e
  where
    cases : (ay yb by ya : Bool) → (ay ≡ true → int_le a high ≡ true) → (yb ≡ true → int_le low b ≡ true) → (by ≡ true → int_le b high ≡ true) → (ya ≡ true → int_le low a ≡ true)
        → ((ay && yb) || (by && ya)) ≡ true → ((int_le a high || int_le b high) && (int_le low a || int_le low b)) ≡ true
    cases true true by ya h k l m e = either_left _ _ _ _ (h refl) (k refl)
    cases true false true true h k l m e = either_right _ _ _ _ (l refl) (m refl)
    cases false yb true true h k l m e = either_right _ _ _ _ (l refl) (m refl)
    cases true false false ya h k l m e = absurd (false≢true e)
    cases true false true false h k l m e = absurd (false≢true e)
    cases false yb false ya h k l m e = absurd (false≢true e)
    cases false yb true false h k l m e = absurd (false≢true e)

straddling_reaches : (low high y a b : ℤ) (z : Bool) → low ≤ℤ y → y ≤ℤ high → (xor (int_le a y) (int_le b y) && z) ≡ true → ((int_le a high || int_le b high) && (int_le low a || int_le low b)) ≡ true
unfolding xor
straddling_reaches low high y a b z south north e =
    cases (int_le a y) (int_le b y) (below a y high north) (beyond low y b south) (below b y high north) (beyond low y a south) e
  where
    cases : (ay by : Bool) → (ay ≡ true → int_le a high ≡ true) → (by ≡ false → int_le low b ≡ true) → (by ≡ true → int_le b high ≡ true) → (ay ≡ false → int_le low a ≡ true)
        → (xor ay by && z) ≡ true → ((int_le a high || int_le b high) && (int_le low a || int_le low b)) ≡ true
    cases true false h k l m e = either_left _ _ _ _ (h refl) (k refl)
    cases false true h k l m e = either_right _ _ _ _ (l refl) (m refl)
    cases true true h k l m e = absurd (false≢true e)
    cases false false h k l m e = absurd (false≢true e)

and_left : (a b : Bool) → (a && b) ≡ true → a ≡ true
and_left true b e = refl
and_left false b e = absurd (false≢true e)

and_right : (a b : Bool) → (a && b) ≡ true → b ≡ true
and_right true b e = e
and_right false b e = absurd (false≢true e)

-- a segment that the point is on has a place at its height
on_reaches : (low high : ℤ) (p : Pt) (s : Pt × Pt) → low ≤ℤ p.y → p.y ≤ℤ high → is_on p s ≡ true → reaches low high s ≡ true
on_reaches low high p s south north e =
    between_reaches low high p.y s.0.y s.1.y south north (and_right (is_between p.x s.0.x s.1.x) _ (and_left _ _ e))

-- and so has one that crosses the ray from it
crosses_reaches : (low high : ℤ) (p : Pt) (s : Pt × Pt) → low ≤ℤ p.y → p.y ≤ℤ high → crosses p s ≡ true → reaches low high s ≡ true
crosses_reaches low high p s south north e = straddling_reaches low high p.y s.0.y s.1.y (passes_beyond p s) south north e

-- the segments that have a place at the heights round a point say what all say
pub among_reaching : (low high : ℤ) (p : Pt) (segments : List (Pt × Pt)) → low ≤ℤ p.y → p.y ≤ℤ high → is_among p (filter (reaches low high) segments) ≡ is_among p segments
among_reaching low high p segments south north =
    ap (λ (b : Bool). b || (count_by (crosses p) (filter (reaches low high) segments) % 2 == 1)) (any-filter_same (is_on p) (reaches low high) true (λ s e. on_reaches low high p s south north e) segments)
    ∙ ap (λ (n : ℕ). list_any (is_on p) segments || (n % 2 == 1)) (count_kept (crosses p) (reaches low high) (λ s e. crosses_reaches low high p s south north e) segments)

-- ---- strips

-- a part of a strip
pub part_is_strip : (rings : List (List Pt)) (strip part : StripValue) → strip.low ≤ℤ part.low → part.high ≤ℤ strip.high
    → part.segments ≡ filter (reaches part.low part.high) strip.segments → IsStrip rings strip → IsStrip rings part
part_is_strip rings strip part south north e h p level =
    ap (is_among p) e
    ∙ among_reaching part.low part.high p strip.segments level.south level.north
    ∙ h p (record { south = omega (arith, ints, south, level.south); north = omega (arith, ints, north, level.north) })

-- a part of a strip, by its borders and segments
pub part_of_strip : (rings : List (List Pt)) (strip part : StripValue) (low high from to : ℤ) (all some : List (Pt × Pt))
    → strip ≡ record { low = low; high = high; segments = all } → part ≡ record { low = from; high = to; segments = some }
    → low ≤ℤ from → to ≤ℤ high → some ≡ filter (reaches from to) all → IsStrip rings strip → IsStrip rings part
part_of_strip rings strip part low high from to all some e f south north g h =
    subst (IsStrip rings) (sym f)
    (part_is_strip rings (record { low = low; high = high; segments = all }) (record { low = from; high = to; segments = some }) south north g
    (subst (IsStrip rings) e h))

-- all segments of the rings
pub whole_is_strip : (rings : List (List Pt)) (strip : StripValue) → strip.segments ≡ all_segments rings → IsStrip rings strip
whole_is_strip rings strip e p level = ap (is_among p) e

-- two more strips
pub strips_next : (rings : List (List Pt)) (old one both : List StripValue) (south north : StripValue) → one ≡ old ++ south ∷ [] → both ≡ one ++ north ∷ []
    → All (IsStrip rings) old → IsStrip rings south → IsStrip rings north → All (IsStrip rings) both
strips_next rings old one both south north e f h k l =
    subst (All (IsStrip rings)) (sym f)
    (All-push (IsStrip rings) one north (subst (All (IsStrip rings)) (sym e) (All-push (IsStrip rings) old south h k)) l)

-- the strip that has the point's height
pub strip_tells : (p : Pt) (strips : List StripValue) (strip : StripValue) → Contains strips strip → IsLevelWith strip p → Tells p strips strip
strip_tells p strips strip c level rings h = subst (IsStrip rings) c.2 (h c.0 strip c.1) p level

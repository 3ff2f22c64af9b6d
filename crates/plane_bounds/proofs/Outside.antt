-- No point outside a box round rings is inside the rings.
use Rattle.std.proofs.Common.{◌≡◌, inl, inr, ℕ, ◌+◌, ◌%◌, ◌≤◌, ℤ, pos, ◌-ℤ◌, ◌*ℤ◌, ◌≤ℤ◌, ◌<ℤ◌, int_le, Bool, true, false, cond, ◌||◌, eqb, List, [], ◌∷◌, ◌++◌, zip, count_by, refl, sym, ap, ◌∙◌, arith}
use Rattle.std.specs.List.{list_any}
use Rattle.std.proofs.lemmas.Int.{ints, by_lt_z}
use Rattle.std.proofs.lemmas.Bool.{false≢true}
use Rattle.std.proofs.lemmas.List.Sums.{sum_by-cons}
use Rattle.plane_geometry.specs.declared.point.Pt.{Pt}
use Rattle.plane_geometry.specs.Segment.{IsBetween}
use Rattle.plane_geometry.specs.EvenOdd.{segments, all_segments, crosses, IsInside}
use Rattle.plane_geometry.proofs.Integers.{scale_le, fewer_le}
use Rattle.plane_geometry.proofs.Places.{is_in_box}
use Rattle.plane_geometry.proofs.Rays.{crosses_rising, crosses_falling, crosses_below, crosses_above, lt_yes, by_order}
use Rattle.plane_geometry.proofs.Crossings.{crossing_place}
use Rattle.plane_bounds.specs.declared.bounds.Bounds.{Bounds}
use Rattle.plane_bounds.specs.Bounds.{IsIn, RingsIn}
use Rattle.plane_bounds.specs.Inside.{is_on, is_inside}
use Rattle.plane_bounds.proofs.Inside.{Decides-on, Decides-inside}
use Rattle.plane_bounds.proofs.Turns.{rising, falling}
use Rattle.plane_bounds.proofs.Ends.{AllOf, all_out, all_then, Ends, ends_rings}

-- ---- tests that hold nowhere

never : {X : Type 0} (f : X → Bool) (xs : List X) → AllOf (λ x. f x ≡ false) xs → list_any f xs ≡ false
never f [] h = refl
never f (x ∷ xs) h = ap (λ (b : Bool). b || list_any f xs) h.0 ∙ never f xs h.1

not_true : (b : Bool) → (b ≡ true → ⊥) → b ≡ false
not_true true h = absurd (h refl)
not_true false h = refl

between : (low high c a b : ℤ) → low ≤ℤ a → a ≤ℤ high → low ≤ℤ b → b ≤ℤ high → IsBetween c a b → (low ≤ℤ c) × (c ≤ℤ high)
between low high c a b h k l m (inl q) = (omega (arith, ints, q.0, q.1), omega (arith, ints, q.0, q.1))
between low high c a b h k l m (inr q) = (omega (arith, ints, q.0, q.1), omega (arith, ints, q.0, q.1))

off_segment : (bounds : Bounds) (p : Pt) → (IsIn bounds p → ⊥) → (s : Pt × Pt) → Ends (IsIn bounds) s → is_on p s ≡ false
off_segment bounds p out s ends =
    not_true _ (λ e.
    let box = is_in_box p s.0 s.1 ((Decides-on p s).0 e) in
    let across = between bounds.x0 bounds.x1 p.x s.0.x s.1.x ends.0.west ends.0.east ends.1.west ends.1.east box.across in
    let along = between bounds.y0 bounds.y1 p.y s.0.y s.1.y ends.0.south ends.0.north ends.1.south ends.1.north box.along in
    out (record { west = across.0; east = across.1; south = along.0; north = along.1 }))

-- ---- an even number of segments cross

abbrev differ : Bool → Bool → Bool
differ true true = false
differ true false = true
differ false b = b

-- whether an odd number of the segments pass the test
abbrev odd : (Pt × Pt → Bool) → List (Pt × Pt) → Bool
odd f [] = false
odd f (s ∷ ss) = differ (f s) (odd f ss)

one_more : (b : Bool) (n : ℕ) (c : Bool) → n % 2 ≡ cond c 1 0 → (cond b 1 0 + n) % 2 ≡ cond (differ b c) 1 0
one_more true n true e = omega (arith, e)
one_more true n false e = omega (arith, e)
one_more false n true e = omega (arith, e)
one_more false n false e = omega (arith, e)

count_odd : (f : Pt × Pt → Bool) (ss : List (Pt × Pt)) → count_by f ss % 2 ≡ cond (odd f ss) 1 0
count_odd f [] = refl
count_odd f (s ∷ ss) =
    ap (λ (n : ℕ). n % 2) (sum_by-cons (λ x. cond (f x) 1 0) s ss) ∙ one_more (f s) (count_by f ss) (odd f ss) (count_odd f ss)

joined : (a b c : Bool) → differ (differ a b) (differ b c) ≡ differ a c
joined true true true = refl
joined true true false = refl
joined true false true = refl
joined true false false = refl
joined false true true = refl
joined false true false = refl
joined false false c = refl

alone : (a : Bool) → differ a false ≡ a
alone true = refl
alone false = refl

with_itself : (a : Bool) → differ a a ≡ false
with_itself true = refl
with_itself false = refl

associative : (a b c : Bool) → differ (differ a b) c ≡ differ a (differ b c)
associative true true true = refl
associative true true false = refl
associative true false true = refl
associative true false false = refl
associative false b c = refl

odd_append : (f : Pt × Pt → Bool) (ss ts : List (Pt × Pt)) → odd f (ss ++ ts) ≡ differ (odd f ss) (odd f ts)
odd_append f [] ts = refl
odd_append f (s ∷ ss) ts = ap (differ (f s)) (odd_append f ss ts) ∙ sym (associative (f s) (odd f ss) (odd f ts))

-- the segments from x to z change sides as often as the two lie on different sides
sides : (f : Pt × Pt → Bool) (h : Pt → Bool) (x z : Pt) (xs : List Pt) → AllOf (λ s. f s ≡ differ (h s.0) (h s.1)) (zip (x ∷ xs) (xs ++ z ∷ []))
    → odd f (zip (x ∷ xs) (xs ++ z ∷ [])) ≡ differ (h x) (h z)
sides f h x z [] all = alone _ ∙ all.0
sides f h x z (y ∷ ys) all =
    ap (λ (b : Bool). differ b (odd f (zip (y ∷ ys) (ys ++ z ∷ [])))) all.0
    ∙ ap (differ (differ (h x) (h y))) (sides f h y z ys all.1)
    ∙ joined (h x) (h y) (h z)

odd_ring : (f : Pt × Pt → Bool) (h : Pt → Bool) (ring : List Pt) → AllOf (λ s. f s ≡ differ (h s.0) (h s.1)) (segments ring) → odd f (segments ring) ≡ false
odd_ring f h [] all = refl
odd_ring f h (r ∷ rs) all = sides f h r r rs all ∙ with_itself (h r)

front : {X : Type 0} (P : X → Type 0) (xs ys : List X) → AllOf P (xs ++ ys) → AllOf P xs
front P [] ys h = tt
front P (x ∷ xs) ys h = (h.0, front P xs ys h.1)

back : {X : Type 0} (P : X → Type 0) (xs ys : List X) → AllOf P (xs ++ ys) → AllOf P ys
back P [] ys h = h
back P (x ∷ xs) ys h = back P xs ys h.1

odd_rings : (f : Pt × Pt → Bool) (h : Pt → Bool) (rings : List (List Pt)) → AllOf (λ s. f s ≡ differ (h s.0) (h s.1)) (all_segments rings) → odd f (all_segments rings) ≡ false
odd_rings f h [] all = refl
odd_rings f h (ring ∷ rings) all =
    odd_append f (segments ring) (all_segments rings)
    ∙ ap (λ (b : Bool). differ b (odd f (all_segments rings))) (odd_ring f h ring (front _ (segments ring) (all_segments rings) all))
    ∙ odd_rings f h rings (back _ (segments ring) (all_segments rings) all)

-- none crosses
odd_never : (f : Pt × Pt → Bool) (ss : List (Pt × Pt)) → AllOf (λ s. f s ≡ false) ss → odd f ss ≡ false
odd_never f [] all = refl
odd_never f (s ∷ ss) all = ap (λ (b : Bool). differ b (odd f ss)) all.0 ∙ odd_never f ss all.1

-- ---- on the four sides of the box

south : (p : Pt) (s : Pt × Pt) (low : ℤ) → p.y <ℤ low → low ≤ℤ s.0.y → low ≤ℤ s.1.y → crosses p s ≡ false
south p s low h a b = crosses_above p s.0 s.1 (omega (arith, ints)) (omega (arith, ints))

north : (p : Pt) (s : Pt × Pt) (high : ℤ) → high <ℤ p.y → s.0.y ≤ℤ high → s.1.y ≤ℤ high → crosses p s ≡ false
north p s high h a b = crosses_below p s.0 s.1 (omega (arith, ints)) (omega (arith, ints))

not_beyond : (d t : ℕ) (x u : ℤ) → t ≤ d → pos 0 ≤ℤ x → u ≤ℤ x → (pos d *ℤ x) <ℤ (pos t *ℤ u) → ⊥
not_beyond d t x u h low le beyond =
    omega (arith, ints, scale_le t u x le, fewer_le t d x h low, beyond)

east : (p : Pt) (s : Pt × Pt) (high : ℤ) → high <ℤ p.x → s.0.x ≤ℤ high → s.1.x ≤ℤ high → crosses p s ≡ false
east p s high h a b =
    not_true _ (λ e.
    let q = crossing_place p s.0 s.1 e in
    not_beyond q.d q.t (p.x -ℤ s.0.x) (s.1.x -ℤ s.0.x) q.on_the_way (omega (arith, ints)) (omega (arith, ints)) q.beyond)

-- whether a point is at most as high
abbrev is_low : Pt → Pt → Bool
is_low p a = int_le a.y p.y

same_sides : (a b c d : Bool) → a ≡ c → b ≡ d → differ c d ≡ differ a b
same_sides a b c d e f = sym (λ i. differ (e i) (f i))

west : (p : Pt) (s : Pt × Pt) (low : ℤ) → p.x <ℤ low → low ≤ℤ s.0.x → low ≤ℤ s.1.x → crosses p s ≡ differ (is_low p s.0) (is_low p s.1)
west p s low h a b =
    by_order s.0.y p.y
    (λ from. by_order s.1.y p.y
    (λ to. crosses_below p s.0 s.1 from to ∙ same_sides _ _ true true (yes s.0 from) (yes s.1 to))
    (λ to. crosses_rising p s.0 s.1 from to ∙ lt_yes _ _ (rising p s.0 s.1 (omega (arith, ints)) (omega (arith, ints)) from to) ∙ same_sides _ _ true false (yes s.0 from) (no s.1 to)))
    (λ from. by_order s.1.y p.y
    (λ to. crosses_falling p s.0 s.1 from to ∙ lt_yes _ _ (falling p s.0 s.1 (omega (arith, ints)) (omega (arith, ints)) from to) ∙ same_sides _ _ false true (no s.0 from) (yes s.1 to))
    (λ to. crosses_above p s.0 s.1 from to ∙ same_sides _ _ false false (no s.0 from) (no s.1 to)))
  where
    yes : (c : Pt) → c.y ≤ℤ p.y → is_low p c ≡ true
    yes c le = grind (arith, ints)

    no : (c : Pt) → p.y <ℤ c.y → is_low p c ≡ false
    no c lt = grind (arith, ints)

even_crossings : (bounds : Bounds) (p : Pt) (rings : List (List Pt)) → (IsIn bounds p → ⊥) → AllOf (Ends (IsIn bounds)) (all_segments rings) → odd (crosses p) (all_segments rings) ≡ false
even_crossings bounds p rings out ends =
    by_lt_z p.x bounds.x0
    (λ lt. odd_rings (crosses p) (is_low p) rings (all_then (Ends (IsIn bounds)) _ _ (λ s e. west p s bounds.x0 lt e.0.west e.1.west) ends))
    (λ a. by_lt_z bounds.x1 p.x
    (λ lt. odd_never (crosses p) _ (all_then (Ends (IsIn bounds)) _ _ (λ s e. east p s bounds.x1 lt e.0.east e.1.east) ends))
    (λ b. by_lt_z p.y bounds.y0
    (λ lt. odd_never (crosses p) _ (all_then (Ends (IsIn bounds)) _ _ (λ s e. south p s bounds.y0 lt e.0.south e.1.south) ends))
    (λ c. by_lt_z bounds.y1 p.y
    (λ lt. odd_never (crosses p) _ (all_then (Ends (IsIn bounds)) _ _ (λ s e. north p s bounds.y1 lt e.0.north e.1.north) ends))
    (λ d. absurd (out (record { west = a; east = b; south = c; north = d }))))))

pub none_outside : (bounds : Bounds) (p : Pt) (rings : List (List Pt)) → RingsIn bounds rings → (IsIn bounds p → ⊥) → is_inside p rings ≡ false
none_outside bounds p rings all out =
    let ends = ends_rings (IsIn bounds) rings (all_out _ rings all) in
    let off = never (is_on p) (all_segments rings) (all_then (Ends (IsIn bounds)) _ _ (off_segment bounds p out) ends) in
    let even : count_by (crosses p) (all_segments rings) % 2 ≡ 0 =
    count_odd (crosses p) (all_segments rings) ∙ ap (λ (b : Bool). cond b 1 0) (even_crossings bounds p rings out ends) in
    ap (λ (b : Bool). b || eqb (count_by (crosses p) (all_segments rings) % 2) 1) off ∙ ap (λ (n : ℕ). eqb n 1) even

pub inside_in_bounds : (bounds : Bounds) (p : Pt) (rings : List (List Pt)) → RingsIn bounds rings → IsInside p rings → IsIn bounds p
inside_in_bounds bounds p rings all inside =
    let never_out : (IsIn bounds p → ⊥) → ⊥ = λ out. false≢true (sym (none_outside bounds p rings all out) ∙ (Decides-inside p rings).1 inside) in
    record {
      west = by_lt_z p.x bounds.x0 (λ lt. absurd (never_out (λ q. omega (arith, ints, lt, q.west)))) (λ le. le);
      east = by_lt_z bounds.x1 p.x (λ lt. absurd (never_out (λ q. omega (arith, ints, lt, q.east)))) (λ le. le);
      south = by_lt_z p.y bounds.y0 (λ lt. absurd (never_out (λ q. omega (arith, ints, lt, q.south)))) (λ le. le);
      north = by_lt_z bounds.y1 p.y (λ lt. absurd (never_out (λ q. omega (arith, ints, lt, q.north)))) (λ le. le);
    }

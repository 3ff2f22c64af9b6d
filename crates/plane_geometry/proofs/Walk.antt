-- A walk over segments that counts crossings.
use Rattle.std.proofs.Common.{◌≡◌, ◌⊎◌, ◌↔◌, inl, inr, ℕ, ◌+◌, ◌%◌, ◌<◌, suc, zero, Bool, true, false, cond, not, Some, slice_get, ◌-◌, List, [], ◌∷◌, ◌++◌, length, drop, get_or, ap, sym, ◌∙◌, refl, subst, add-zero, add-one, add_comm, drop-cons, ◌≤◌, arith, IsTrue, Any, count_by, zip}
use Rattle.std.specs.Bool.{beq}
use Rattle.std.proofs.lemmas.Bool.{false≢true}
use Rattle.std.proofs.Math.ListN.{drop_of_length-le}
use Rattle.std.proofs.lemmas.List.Sums.{sum_by-append, sum_by-cons, sum_by_push}
use Rattle.plane_geometry.specs.declared.point.Pt.{Pt}
use Rattle.plane_geometry.specs.Segment.{LiesOnSegment}
use Rattle.plane_geometry.specs.EvenOdd.{segments, all_segments, crosses}

abbrev pub AnyOf : {X : Type 0} → (X → Type 0) → List X → Type 0
AnyOf P [] = ⊥
AnyOf P (x ∷ xs) = P x ⊎ AnyOf P xs

pub any_out : {X : Type 0} (P : X → Type 0) (xs : List X) → Any P xs → AnyOf P xs
any_out P [] (k, x, lt, e, h) = absurd (omega arith)
any_out P (y ∷ ys) (zero, x, lt, e, h) = inl (subst P (sym e) h)
any_out P (y ∷ ys) (suc k, x, lt, e, h) = inr (any_out P ys (k, x, omega arith, e, h))

pub any_in : {X : Type 0} (P : X → Type 0) (xs : List X) → AnyOf P xs → Any P xs
any_in P [] h = absurd h
any_in P (y ∷ ys) (inl h) = (0, y, omega arith, refl, h)
any_in P (y ∷ ys) (inr q) =
    let w = any_in P ys q in
    (suc w.0, w.1, omega (arith, w.2), w.3, w.4)

pub any_left : {X : Type 0} (P : X → Type 0) (xs ys : List X) → AnyOf P xs → AnyOf P (xs ++ ys)
any_left P [] ys h = absurd h
any_left P (x ∷ xs) ys (inl h) = inl h
any_left P (x ∷ xs) ys (inr h) = inr (any_left P xs ys h)

pub any_right : {X : Type 0} (P : X → Type 0) (xs ys : List X) → AnyOf P ys → AnyOf P (xs ++ ys)
any_right P [] ys h = h
any_right P (x ∷ xs) ys h = inr (any_right P xs ys h)

pub any_either : {X : Type 0} (P : X → Type 0) (xs ys : List X) → AnyOf P (xs ++ ys) → AnyOf P xs ⊎ AnyOf P ys
any_either P [] ys h = inr h
any_either P (x ∷ xs) ys (inl h) = inl (inl h)
any_either P (x ∷ xs) ys (inr h) = elim (any_either P xs ys h) [ inl a ↦ inl (inr a) | inr b ↦ inr b ]

-- p is on the segment
abbrev pub IsOn : Pt → Pt × Pt → Type 0
IsOn p s = LiesOnSegment p s.0 s.1

-- after some of all segments, with the parity so far, the rest decide
pub record Remains (p : Pt) (odd : Bool) (rest all : List (Pt × Pt)) : Type 0 where
  pub on : AnyOf (IsOn p) rest ↔ AnyOf (IsOn p) all
  pub parity : (count_by (crosses p) rest + cond odd 1 0) % 2 ≡ count_by (crosses p) all % 2

pub count_by-append : {X : Type 0} (f : X → Bool) (xs ys : List X) → count_by f (xs ++ ys) ≡ count_by f xs + count_by f ys
count_by-append f xs ys = sum_by-append (λ x. cond (f x) 1 0) xs ys

-- what `odd ^= crossed` gives
abbrev pub exclusive : Bool → Bool → Bool
exclusive a b = not (beq a b)

add_even : (n m : ℕ) (odd crossed : Bool) → (IsTrue crossed ↔ (m % 2 ≡ 1)) → ((m + n) + cond odd 1 0) % 2 ≡ (n + cond (exclusive odd crossed) 1 0) % 2
add_even n m true true h = let q = h.0 refl in omega arith
add_even n m true false h = let q : ¬ (m % 2 ≡ 1) = λ e. false≢true (h.1 e) in omega arith
add_even n m false true h = let q = h.0 refl in omega arith
add_even n m false false h = let q : ¬ (m % 2 ≡ 1) = λ e. false≢true (h.1 e) in omega arith

-- some segments more, none of which p is on
pub remains_more : (p : Pt) (odd crossed : Bool) (front rest all : List (Pt × Pt)) → Remains p odd (front ++ rest) all → ¬ AnyOf (IsOn p) front → (IsTrue crossed ↔ (count_by (crosses p) front % 2 ≡ 1)) → Remains p (exclusive odd crossed) rest all
remains_more p odd crossed front rest all r off h = record {
  on = (
    λ q. r.on.0 (any_right (IsOn p) front rest q),
    λ q. elim (any_either (IsOn p) front rest (r.on.1 q)) [ inl a ↦ absurd (off a) | inr b ↦ b ],
  );
  parity =
      sym (add_even (count_by (crosses p) rest) (count_by (crosses p) front) odd crossed h)
      ∙ ap (λ (k : ℕ). (k + cond odd 1 0) % 2) (sym (count_by-append (crosses p) front rest))
      ∙ r.parity;
}

-- p is on one of the next segments
pub remains_found : (p : Pt) (odd : Bool) (front rest all : List (Pt × Pt)) → Remains p odd (front ++ rest) all → AnyOf (IsOn p) front → Any (IsOn p) all
remains_found p odd front rest all r h = any_in (IsOn p) all (r.on.0 (any_left (IsOn p) front rest h))

-- no segment is left
pub remains_none : (p : Pt) (odd : Bool) (all : List (Pt × Pt)) → Remains p odd [] all → ¬ Any (IsOn p) all
remains_none p odd all r h = r.on.1 (any_out (IsOn p) all h)

pub remains_odd : (p : Pt) (odd : Bool) (all : List (Pt × Pt)) → Remains p odd [] all → IsTrue odd ↔ (count_by (crosses p) all % 2 ≡ 1)
remains_odd p true all r = (λ e. sym r.parity, λ e. refl)
remains_odd p false all r = (λ e. absurd (false≢true e), λ e. absurd (omega (arith, r.parity, e)))

-- before the first segment
pub remains_all : (p : Pt) (all : List (Pt × Pt)) → Remains p false all all
remains_all p all = record { on = (λ h. h, λ h. h); parity = ap (λ (k : ℕ). k % 2) (omega arith) }

-- the segments of an open line
abbrev pub line_from : Pt → List Pt → List (Pt × Pt)
line_from from [] = []
line_from from (to ∷ rest) = (from, to) ∷ line_from to rest

abbrev last_of : Pt → List Pt → Pt
last_of from [] = from
last_of from (to ∷ rest) = last_of to rest

-- a line that ends in a point: its segments, and the one to that point
closed : (r end : Pt) (rs : List Pt) → zip (r ∷ rs) (rs ++ end ∷ []) ≡ line_from r rs ++ (last_of r rs, end) ∷ []
closed r end [] = refl
closed r end (s ∷ rs) = ap (λ (l : List (Pt × Pt)). (r, s) ∷ l) (closed s end rs)

-- one segment goes from the front of a list to its end
remains_turned : (p : Pt) (s : Pt × Pt) (rest : List (Pt × Pt)) → Remains p false (s ∷ rest) (rest ++ s ∷ [])
remains_turned p s rest = record {
  on = (λ h. turn_out h, λ h. elim (any_either (IsOn p) rest (s ∷ []) h) [ inl a ↦ inr a | inr b ↦ elim b [ inl a ↦ inl a | inr q ↦ absurd q ] ]);
  parity = ap (λ (k : ℕ). k % 2) (add-zero _ ∙ sum_by-cons (λ x. cond (crosses p x) 1 0) s rest ∙ add_comm _ _ ∙ sym (sum_by_push (λ x. cond (crosses p x) 1 0) rest s));
}
  where
    turn_out : AnyOf (IsOn p) (s ∷ rest) → AnyOf (IsOn p) (rest ++ s ∷ [])
    turn_out (inl a) = any_right (IsOn p) rest (s ∷ []) (inl a)
    turn_out (inr b) = any_left (IsOn p) rest (s ∷ []) b

last_is : (r : Pt) (rs : List Pt) → slice_get (r ∷ rs) (length rs) ≡ Some (last_of r rs)
last_is r [] = refl
last_is r (s ∷ rs) = last_is s rs

-- a walk round a ring that begins at its last point
pub remains_ring : (p last : Pt) (ring : List Pt) → slice_get ring (length ring - 1) ≡ Some last → Remains p false (line_from last ring) (segments ring)
remains_ring p last [] e = remains_all p []
remains_ring p last (r ∷ rs) e =
    let short : length (r ∷ rs) - 1 ≡ length rs = omega arith in
    let is_last : last_of r rs ≡ last = some_same (sym (last_is r rs) ∙ rw short at e) in
    rw (← is_last, closed r r rs) (remains_turned p (last_of r rs, r) (line_from r rs))
  where
    some_same : {x y : Pt} → Some x ≡ Some y → x ≡ y
    some_same e = cc

-- the walk's next segment
pub line_from-drop : (from d : Pt) (ring : List Pt) (i : ℕ) → i < length ring → line_from from (drop i ring) ≡ (from, get_or ring i d) ∷ line_from (get_or ring i d) (drop (i + 1) ring)
line_from-drop from d ring i h = rw (add-one, drop-cons ring i d) refl

-- one segment more, which p isn't on
pub remains_next : (p : Pt) (odd crossed : Bool) (s : Pt × Pt) (rest all : List (Pt × Pt)) → Remains p odd (s ∷ rest) all → ¬ IsOn p s → crossed ≡ crosses p s → Remains p (exclusive odd crossed) rest all
remains_next p odd crossed s rest all r off e =
    remains_more p odd crossed (s ∷ []) rest all r (λ h. elim h [ inl a ↦ off a | inr q ↦ q ]) (rw (sum_by-cons (λ x. cond (crosses p x) 1 0) s [], add-zero) (counted (crosses p s) crossed e))
  where
    counted : (b crossed : Bool) → crossed ≡ b → IsTrue crossed ↔ (cond b 1 0 % 2 ≡ 1)
    counted true crossed e = (λ h. refl, λ h. e)
    counted false crossed e = (λ h. absurd (false≢true (sym e ∙ h)), λ h. absurd (omega (arith, h)))

-- the walk comes to a segment that p is on
pub walk_found : (p from d : Pt) (odd : Bool) (ring : List Pt) (i : ℕ) (all : List (Pt × Pt)) → Remains p odd (line_from from (drop i ring)) all → i < length ring → IsOn p (from, get_or ring i d) → Any (IsOn p) all
walk_found p from d odd ring i all r lt h =
    let s : Pt × Pt = (from, get_or ring i d) in
    let rest = line_from (get_or ring i d) (drop (i + 1) ring) in
    remains_found p odd (s ∷ []) rest all (rw (line_from-drop from d ring i lt) at r) (inl h)

-- the walk goes on to the next point
pub walk_next : (p from d : Pt) (odd crossed : Bool) (ring : List Pt) (i : ℕ) (all : List (Pt × Pt)) → Remains p odd (line_from from (drop i ring)) all → i < length ring → ¬ IsOn p (from, get_or ring i d) → crossed ≡ crosses p (from, get_or ring i d) → Remains p (exclusive odd crossed) (line_from (get_or ring i d) (drop (i + 1) ring)) all
walk_next p from d odd crossed ring i all r lt off e =
    let s : Pt × Pt = (from, get_or ring i d) in
    let rest = line_from (get_or ring i d) (drop (i + 1) ring) in
    remains_next p odd crossed s rest all (rw (line_from-drop from d ring i lt) at r) off e

-- the walk has come to the ring's last point
pub walk_end : (p from : Pt) (odd : Bool) (ring : List Pt) (i : ℕ) (all : List (Pt × Pt)) → Remains p odd (line_from from (drop i ring)) all → length ring ≤ i → Remains p odd [] all
walk_end p from odd ring i all r le = rw (drop_of_length-le ring le) at r

-- the segments of the rings that are left
rings_next : (rings : List (List Pt)) (i : ℕ) (ring : List Pt) → i < length rings → ring ≡ get_or rings i ring → all_segments (drop i rings) ≡ segments ring ++ all_segments (drop (i + 1) rings)
rings_next rings i ring h e =
    rw (add-one, drop-cons rings i ring) (ap (λ (r : List Pt). segments r ++ all_segments (drop (suc i) rings)) (sym e))

-- p is on a segment of the next ring
pub ring_found : (p : Pt) (odd : Bool) (rings : List (List Pt)) (i : ℕ) (ring : List Pt) (all : List (Pt × Pt)) → Remains p odd (all_segments (drop i rings)) all → i < length rings → ring ≡ get_or rings i ring → Any (IsOn p) (segments ring) → Any (IsOn p) all
ring_found p odd rings i ring all r lt e on =
    remains_found p odd (segments ring) (all_segments (drop (i + 1) rings)) all (rw (rings_next rings i ring lt e) at r) (any_out (IsOn p) (segments ring) on)

-- p is on no segment of the next ring
pub ring_next : (p : Pt) (odd crossed : Bool) (rings : List (List Pt)) (i : ℕ) (ring : List Pt) (all : List (Pt × Pt)) → Remains p odd (all_segments (drop i rings)) all → i < length rings → ring ≡ get_or rings i ring → ¬ Any (IsOn p) (segments ring) → (IsTrue crossed ↔ (count_by (crosses p) (segments ring) % 2 ≡ 1)) → Remains p (exclusive odd crossed) (all_segments (drop (i + 1) rings)) all
ring_next p odd crossed rings i ring all r lt e off h =
    remains_more p odd crossed (segments ring) (all_segments (drop (i + 1) rings)) all (rw (rings_next rings i ring lt e) at r) (λ on. off (any_in (IsOn p) (segments ring) on)) h

-- no ring is left
pub rings_end : (p : Pt) (odd : Bool) (rings : List (List Pt)) (i : ℕ) (all : List (Pt × Pt)) → Remains p odd (all_segments (drop i rings)) all → length rings ≤ i → Remains p odd [] all
rings_end p odd rings i all r le = rw (drop_of_length-le rings le) at r

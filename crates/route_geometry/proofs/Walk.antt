-- A walk over the segments of rings, in search of one with a property.
use Rattle.std.proofs.Common.{◌≡◌, ◌↔◌, inl, inr, ℕ, ◌+◌, ◌-◌, ◌<◌, ◌≤◌, suc, Some, slice_get, List, [], ◌∷◌, ◌++◌, length, drop, get_or, ap, sym, ◌∙◌, refl, add-one, drop-cons, arith, Any, zip}
use Rattle.std.proofs.Math.ListN.{drop_of_length-le}
use Rattle.plane_geometry.specs.declared.point.Pt.{Pt}
use Rattle.plane_geometry.specs.EvenOdd.{segments, all_segments}
use Rattle.plane_geometry.proofs.Walk.{AnyOf, any_out, any_in, any_left, any_right, any_either, line_from, line_from-drop}

-- after some of all segments, the rest decide whether one has the property
pub record Remains (P : Pt × Pt → Type 0) (rest all : List (Pt × Pt)) : Type 0 where
  pub any : AnyOf P rest ↔ AnyOf P all

-- one of the next segments has it
pub found : (P : Pt × Pt → Type 0) (front rest all : List (Pt × Pt)) → Remains P (front ++ rest) all → Any P front → Any P all
found P front rest all r h = any_in P all (r.any.0 (any_left P front rest (any_out P front h)))

-- none of the next segments has it
pub passed : (P : Pt × Pt → Type 0) (front rest all : List (Pt × Pt)) → Remains P (front ++ rest) all → ¬ Any P front → Remains P rest all
passed P front rest all r off = record {
  any = (
    λ q. r.any.0 (any_right P front rest q),
    λ q. elim (any_either P front rest (r.any.1 q)) [ inl a ↦ absurd (off (any_in P front a)) | inr b ↦ b ],
  );
}

-- no segment is left
pub none_left : (P : Pt × Pt → Type 0) (all : List (Pt × Pt)) → Remains P [] all → ¬ Any P all
none_left P all r h = r.any.1 (any_out P all h)

last_of : Pt → List Pt → Pt
last_of from [] = from
last_of from (to ∷ rest) = last_of to rest

-- a line that ends in a point: its segments, and the one to that point
closed : (r end : Pt) (rs : List Pt) → zip (r ∷ rs) (rs ++ end ∷ []) ≡ line_from r rs ++ (last_of r rs, end) ∷ []
unfolding last_of
closed r end [] = refl
closed r end (s ∷ rs) = ap (λ (l : List (Pt × Pt)). (r, s) ∷ l) (closed s end rs)

last_is : (r : Pt) (rs : List Pt) → slice_get (r ∷ rs) (length rs) ≡ Some (last_of r rs)
unfolding last_of
last_is r [] = refl
last_is r (s ∷ rs) = last_is s rs

-- one segment goes from the front of a list to its end
turned : (P : Pt × Pt → Type 0) (s : Pt × Pt) (rest : List (Pt × Pt)) → Remains P (s ∷ rest) (rest ++ s ∷ [])
turned P s rest = record {
  any = (λ h. out h, λ h. elim (any_either P rest (s ∷ []) h) [ inl a ↦ inr a | inr b ↦ elim b [ inl a ↦ inl a | inr q ↦ absurd q ] ]);
}
  where
    out : AnyOf P (s ∷ rest) → AnyOf P (rest ++ s ∷ [])
    out (inl a) = any_right P rest (s ∷ []) (inl a)
    out (inr b) = any_left P rest (s ∷ []) b

-- a walk round a ring that begins at its last point
pub round_ring : (P : Pt × Pt → Type 0) (last : Pt) (ring : List Pt) → slice_get ring (length ring - 1) ≡ Some last → Remains P (line_from last ring) (segments ring)
round_ring P last [] e = record { any = (λ h. h, λ h. h) }
round_ring P last (r ∷ rs) e =
    let short : length (r ∷ rs) - 1 ≡ length rs = omega arith in
    let is_last : last_of r rs ≡ last = some_same (sym (last_is r rs) ∙ rw short at e) in
    rw (← is_last, closed r r rs) (turned P (last_of r rs, r) (line_from r rs))
  where
    some_same : {x y : Pt} → Some x ≡ Some y → x ≡ y
    some_same e = cc

one : (P : Pt × Pt → Type 0) (s : Pt × Pt) → P s → Any P (s ∷ [])
one P s h = any_in P (s ∷ []) (inl h)

not_one : (P : Pt × Pt → Type 0) (s : Pt × Pt) → ¬ P s → ¬ Any P (s ∷ [])
not_one P s off h = elim (any_out P (s ∷ []) h) [ inl a ↦ off a | inr q ↦ absurd q ]

-- the next segment of the walk has it
pub found_on_ring : (P : Pt × Pt → Type 0) (from to : Pt) (ring : List Pt) (i : ℕ) (all : List (Pt × Pt)) → Remains P (line_from from (drop i ring)) all → i < length ring → P (from, get_or ring i to) → Any P all
found_on_ring P from to ring i all r lt h =
    let s : Pt × Pt = (from, get_or ring i to) in
    found P (s ∷ []) (line_from (get_or ring i to) (drop (i + 1) ring)) all (rw (line_from-drop from to ring i lt) at r) (one P s h)

-- the next segment of the walk doesn't have it
pub passed_on_ring : (P : Pt × Pt → Type 0) (from to : Pt) (ring : List Pt) (i : ℕ) (all : List (Pt × Pt)) → Remains P (line_from from (drop i ring)) all → i < length ring → ¬ P (from, get_or ring i to) → Remains P (line_from (get_or ring i to) (drop (i + 1) ring)) all
passed_on_ring P from to ring i all r lt off =
    let s : Pt × Pt = (from, get_or ring i to) in
    passed P (s ∷ []) (line_from (get_or ring i to) (drop (i + 1) ring)) all (rw (line_from-drop from to ring i lt) at r) (not_one P s off)

-- the walk has come to the ring's last point
pub ring_walked : (P : Pt × Pt → Type 0) (from : Pt) (ring : List Pt) (i : ℕ) (all : List (Pt × Pt)) → Remains P (line_from from (drop i ring)) all → length ring ≤ i → ¬ Any P all
ring_walked P from ring i all r le = none_left P all (rw (drop_of_length-le ring le) at r)

-- the segments of the rings that are left
next_ring : (rings : List (List Pt)) (i : ℕ) (ring : List Pt) → i < length rings → ring ≡ get_or rings i ring → all_segments (drop i rings) ≡ segments ring ++ all_segments (drop (i + 1) rings)
next_ring rings i ring h e =
    rw (add-one, drop-cons rings i ring) (ap (λ (r : List Pt). segments r ++ all_segments (drop (suc i) rings)) (sym e))

-- a segment of the next ring has it
pub found_in_ring : (P : Pt × Pt → Type 0) (rings : List (List Pt)) (i : ℕ) (ring : List Pt) (all : List (Pt × Pt)) → Remains P (all_segments (drop i rings)) all → i < length rings → ring ≡ get_or rings i ring → Any P (segments ring) → Any P all
found_in_ring P rings i ring all r lt e h =
    found P (segments ring) (all_segments (drop (i + 1) rings)) all (rw (next_ring rings i ring lt e) at r) h

-- no segment of the next ring has it
pub passed_ring : (P : Pt × Pt → Type 0) (rings : List (List Pt)) (i : ℕ) (ring : List Pt) (all : List (Pt × Pt)) → Remains P (all_segments (drop i rings)) all → i < length rings → ring ≡ get_or rings i ring → ¬ Any P (segments ring) → Remains P (all_segments (drop (i + 1) rings)) all
passed_ring P rings i ring all r lt e off =
    passed P (segments ring) (all_segments (drop (i + 1) rings)) all (rw (next_ring rings i ring lt e) at r) off

-- no ring is left
pub rings_walked : (P : Pt × Pt → Type 0) (rings : List (List Pt)) (i : ℕ) (all : List (Pt × Pt)) → Remains P (all_segments (drop i rings)) all → length rings ≤ i → ¬ Any P all
rings_walked P rings i all r le = none_left P all (rw (drop_of_length-le rings le) at r)

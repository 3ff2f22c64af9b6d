-- What boxes that grow point by point, or that are put round two, come to: the least box round the points.
use Rattle.std.proofs.Common.{◌≡◌, ◌≢◌, inl, List, [], ◌∷◌, ◌++◌, Option, Some, None, refl, sym, ap, ◌∙◌, subst, append_assoc, arith}
use Rattle.std.specs.List.{All, fold}
use Rattle.std.proofs.lemmas.Int.{ints}
use Rattle.std.proofs.lemmas.List.{append-nil}
use Rattle.std.proofs.lemmas.List.Elements.{All-push, All-append, All-weaker, All-cons, All-nil, All-head, All-tail}
use Rattle.common_lemmas.proofs.Choices.{some_is}
use Rattle.plane_geometry.specs.declared.point.Pt.{Pt}
use Rattle.plane_bounds.specs.declared.bounds.Bounds.{Bounds}
use Rattle.plane_bounds.specs.Bounds.{IsIn, Holds, around, box_at, with_point}
use Rattle.plane_bounds.proofs.Growth.{still_in}
use Rattle.plane_bounds.proofs.Widened.{holds_old, holds_point, held_by, holds_one, holds_other, holds_both}
use Rattle.spatial_grid.specs.Box.{IsLeastBox}
use Rattle.spatial_grid.specs.Boxes.{box_of, box_with, around_both}
use Rattle.common_lemmas.proofs.Members.{Has}
use Rattle.spatial_grid.proofs.Members.{SameMembers, all_has, has_all}

filled : {X : Type 0} (xs : List X) (x : X) → xs ++ x ∷ [] ≢ []
filled [] x e = cc
filled (y ∷ ys) x e = cc

front : {X : Type 0} (P : X → Type 0) (xs ys : List X) → All P (xs ++ ys) → All P xs
front P [] ys h = All-nil P
front P (x ∷ xs) ys h = All-cons P x xs (All-head P x (xs ++ ys) h) (front P xs ys (All-tail P x (xs ++ ys) h))

rest : {X : Type 0} (P : X → Type 0) (xs ys : List X) → All P (xs ++ ys) → All P ys
rest P [] ys h = h
rest P (x ∷ xs) ys h = rest P xs ys (All-tail P x (xs ++ ys) h)

-- a point alone
alone : (p : Pt) → IsLeastBox (p ∷ []) (box_at p)
alone p = record {
  some = filled [] p;
  all =
      All-cons (IsIn (box_at p)) p []
      (record { west = omega (arith, ints); east = omega (arith, ints); south = omega (arith, ints); north = omega (arith, ints) })
      (All-nil (IsIn (box_at p)));
  least = λ other h.
      let here = All-head (IsIn other) p [] h in
      record { west = here.west; east = here.east; south = here.south; north = here.north };
}

-- one point more
grows : (done : List Pt) (box : Bounds) (p : Pt) → IsLeastBox done box → IsLeastBox (done ++ p ∷ []) (with_point box p)
grows done box p h = record {
  some = filled done p;
  all =
      All-push (IsIn (with_point box p)) done p
      (All-weaker (IsIn box) (IsIn (with_point box p)) (λ q. still_in box (with_point box p) q (holds_old box p)) done h.all)
      (holds_point box p);
  least = λ other all.
      held_by box p other (h.least other (front (IsIn other) done (p ∷ []) all)) (All-head (IsIn other) p [] (rest (IsIn other) done (p ∷ []) all));
}

-- what is found of the points that are left
record IsRound (points : List Pt) (found : Option Bounds) : Type 0 where
  box : Bounds
  is : found ≡ Some box
  least : IsLeastBox points box

folded : (done rest : List Pt) (box : Bounds) → IsLeastBox done box → IsRound (done ++ rest) (fold box_with (Some box) rest)
folded done [] box h = record { box = box; is = refl; least = subst (λ l. IsLeastBox l box) (sym (append-nil done)) h }
folded done (p ∷ rest) box h =
    let r = folded (done ++ p ∷ []) rest (with_point box p) (grows done box p h) in
    record { box = r.box; is = r.is; least = subst (λ l. IsLeastBox l r.box) (append_assoc done (p ∷ []) rest) r.least }

-- two least boxes of the same points are one
one_least : (points : List Pt) (a b : Bounds) → IsLeastBox points a → IsLeastBox points b → a ≡ b
one_least points a b h k =
    let over = h.least b k.all in
    let under = k.least a h.all in
    let x0 : a.x0 ≡ b.x0 = omega (arith, ints, over.west, under.west) in
    let y0 : a.y0 ≡ b.y0 = omega (arith, ints, over.south, under.south) in
    let x1 : a.x1 ≡ b.x1 = omega (arith, ints, over.east, under.east) in
    let y1 : a.y1 ≡ b.y1 = omega (arith, ints, over.north, under.north) in
    λ i. record { x0 = x0 i; y0 = y0 i; x1 = x1 i; y1 = y1 i }

-- the box that is found is the least
pub found_least : (points : List Pt) (box : Bounds) → box_of points ≡ Some box → IsLeastBox points box
found_least [] box e = absurd (let no : ◌≡◌ {A = Option Bounds} None (Some box) = e in cc)
found_least (p ∷ ps) box e =
    let r = folded (p ∷ []) ps (box_at p) (alone p) in
    subst (IsLeastBox (p ∷ ps)) (some_is r.box box (sym r.is ∙ e)) r.least

-- and the least is found
pub least_found : (points : List Pt) (box : Bounds) → IsLeastBox points box → box_of points ≡ Some box
least_found [] box h = absurd (h.some refl)
least_found (p ∷ ps) box h =
    let r = folded (p ∷ []) ps (box_at p) (alone p) in
    r.is ∙ ap Some (one_least (p ∷ ps) r.box box r.least h)

-- points have a least box
pub least_there : (points : List Pt) → points ≢ [] → (box : Bounds) × IsLeastBox points box
least_there [] some = absurd (some refl)
least_there (p ∷ ps) some =
    let r = folded (p ∷ []) ps (box_at p) (alone p) in
    (r.box, r.least)

-- ---- two boxes

around_least : (xs ys : List Pt) (one other : Bounds) → IsLeastBox xs one → IsLeastBox ys other → IsLeastBox (xs ++ ys) (around one other)
around_least xs ys one other h k = record {
  some = some_of xs h.some;
  all =
      All-append (IsIn (around one other)) xs ys
      (All-weaker (IsIn one) (IsIn (around one other)) (λ q. still_in one (around one other) q (holds_one one other)) xs h.all)
      (All-weaker (IsIn other) (IsIn (around one other)) (λ q. still_in other (around one other) q (holds_other one other)) ys k.all);
  least = λ box all.
      holds_both one other box (h.least box (front (IsIn box) xs ys all)) (k.least box (rest (IsIn box) xs ys all));
}
  where
    some_of : (l : List Pt) → l ≢ [] → l ++ ys ≢ []
    some_of [] some e = some refl
    some_of (p ∷ ps) some e = cc

-- the box round the boxes of two lists is that of both together
pub box_of-append : (xs ys : List Pt) → around_both (box_of xs) (box_of ys) ≡ box_of (xs ++ ys)
box_of-append [] ys = refl
box_of-append (p ∷ ps) [] =
    let r = folded (p ∷ []) ps (box_at p) (alone p) in
    ap (λ found. around_both found None) r.is ∙ sym r.is ∙ ap box_of (sym (append-nil (p ∷ ps)))
box_of-append (p ∷ ps) (q ∷ qs) =
    let r = folded (p ∷ []) ps (box_at p) (alone p) in
    let s = folded (q ∷ []) qs (box_at q) (alone q) in
    ap (λ found. around_both found (box_of (q ∷ qs))) r.is
    ∙ ap (around_both (Some r.box)) s.is
    ∙ sym (least_found ((p ∷ ps) ++ q ∷ qs) (around r.box s.box) (around_least (p ∷ ps) (q ∷ qs) r.box s.box r.least s.least))

-- ---- which points there are, and not how often

least_same : (xs ys : List Pt) (box : Bounds) → SameMembers xs ys → IsLeastBox xs box → IsLeastBox ys box
least_same xs ys box same h = record {
  some = λ e. h.some (none_in xs (λ p there. subst (Has p) e (same.there p there)));
  all = has_all (IsIn box) ys (λ p there. all_has (IsIn box) xs h.all p (same.back p there));
  least = λ other all.
      h.least other (has_all (IsIn other) xs (λ p there. all_has (IsIn other) ys all p (same.there p there)));
}
  where
    none_in : (l : List Pt) → ((p : Pt) → Has p l → ⊥) → l ≡ []
    none_in [] none = refl
    none_in (p ∷ ps) none = absurd (none p (inl refl))

-- the same points have the same box
pub box_of-same : (xs ys : List Pt) → SameMembers xs ys → box_of xs ≡ box_of ys
box_of-same [] [] same = refl
box_of-same [] (q ∷ qs) same = absurd (same.back q (inl refl))
box_of-same (p ∷ ps) ys same =
    let r = folded (p ∷ []) ps (box_at p) (alone p) in
    r.is ∙ sym (least_found ys r.box (least_same (p ∷ ps) ys r.box same r.least))

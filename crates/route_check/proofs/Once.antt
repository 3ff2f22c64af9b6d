-- Rows in order, each once.
use Rattle.std.proofs.Common.{◌≡◌, ℕ, Bool, true, false, ◌&&◌, T, List, refl, sym, ap, ◌∙◌, subst}
use Rattle.std.specs.Prelude.{◌↔◌, ◌==◌, AllPairs, nat_eq}
use Rattle.std.specs.List.{Contains, dedup}
use Rattle.std.specs.List.Sorted.{IsSorted, IsPermutation}
use Rattle.std.specs.declared.cmp.Ordering.{Ordering}
use Rattle.std.specs.declared.cmp.Ordering.TheVariants.{Less, Equal, Greater}
use Rattle.std.specs.Ordering.{is_eq, eq_by_cmp, ordering_then, nat_cmp}
use Rattle.std.specs.Cmp.{IsEquivalence, IsTotalOrder, nat_cmp_total, tied_itself}
use Rattle.std.specs.Cmp.Lexicographic.{pointwise, texts_ties}
use Rattle.std.specs.FinMap.{nat_cmp-IsAntisymmetric}
use Rattle.std.proofs.lemmas.Bool.{eqb-true}
use Rattle.std.proofs.lemmas.Cmp.{eq_by_cmp_equiv, on_total, then_total}
use Rattle.std.proofs.lemmas.List.Kept.{IsStrictlySortedBy-dedup, Contains-dedup, Contains-from_dedup}
use Rattle.std.proofs.lemmas.List.Sorted.{Contains-permutation, IsPermutation-sym}
use Rattle.std.proofs.lemmas.Map.Keys.{Less-from_sorted}
use Rattle.std.proofs.Math.Dec.{eqb_refl}
use Rattle.chart_model.specs.Keys.{key_cmp}
use Rattle.chart_model.proofs.Keys.{key_cmp-total, key_cmp-IsAntisymmetric}
use Rattle.chart_model.proofs.Maps.{tied}
use Rattle.route_check.specs.declared.danger.Danger.{Danger}
use Rattle.route_check.specs.Report.{danger_cmp}

abbrev pub same : Danger → Danger → Bool
same x y = (x.leg == y.leg) && (pointwise nat_eq x.key y.key && ((x.rcid == y.rcid) && (x.place == y.place)))

-- ---- tests

same_tests : (p q : Bool) → (p ≡ true → q ≡ true) → (q ≡ true → p ≡ true) → p ≡ q
same_tests true true to from = refl
same_tests true false to from = sym (to refl)
same_tests false true to from = from refl
same_tests false false to from = refl

both : (p q : Bool) → p ≡ true → q ≡ true → (p && q) ≡ true
both true q a b = b
both false q a b = a

left : (p q : Bool) → (p && q) ≡ true → p ≡ true
left true q e = refl
left false q e = e

right : (p q : Bool) → (p && q) ≡ true → q ≡ true
right true q e = e
right false q e = absurd (subst T (sym e) tt)

yes : (b : Bool) → T b → b ≡ true
yes true h = refl
yes false h = absurd h

-- ---- the order of rows

pub danger_total : IsTotalOrder danger_cmp
danger_total =
    then_total (on_total (λ (d : Danger). d.leg) nat_cmp_total)
    (then_total (on_total (λ (d : Danger). d.key) key_cmp-total)
    (then_total (on_total (λ (d : Danger). d.rcid) nat_cmp_total) (on_total (λ (d : Danger). d.place) nat_cmp_total)))

both_tie : (r s : Ordering) → ordering_then r s ≡ Equal → (r ≡ Equal) × (s ≡ Equal)
both_tie Less s e = absurd cc
both_tie Equal s e = (refl, e)
both_tie Greater s e = absurd cc

tie_is_same : (x y : Danger) → danger_cmp x y ≡ Equal → x ≡ y
tie_is_same x y e =
    let first = both_tie (nat_cmp x.leg y.leg) _ e in
    let second = both_tie (key_cmp x.key y.key) _ first.1 in
    let third = both_tie (nat_cmp x.rcid y.rcid) _ second.1 in
    let legs : x.leg ≡ y.leg = nat_cmp-IsAntisymmetric x.leg y.leg first.0 in
    let keys : x.key ≡ y.key = key_cmp-IsAntisymmetric x.key y.key second.0 in
    let rcids : x.rcid ≡ y.rcid = nat_cmp-IsAntisymmetric x.rcid y.rcid third.0 in
    let places : x.place ≡ y.place = nat_cmp-IsAntisymmetric x.place y.place third.1 in
    λ i. record { leg = legs i; key = keys i; rcid = rcids i; place = places i }

-- ---- sorted, and each once

key_same : (k l : List ℕ) → pointwise nat_eq k l ≡ true → k ≡ l
key_same k l e = key_cmp-IsAntisymmetric k l (tied (key_cmp k l) (sym (texts_ties k l) ∙ e))

key_itself : (k : List ℕ) → pointwise nat_eq k k ≡ true
key_itself k = texts_ties k k ∙ ap is_eq (tied_itself key_cmp-total k)

same_itself : (x : Danger) → same x x ≡ true
same_itself x =
    both _ _ (yes _ (eqb_refl x.leg)) (both _ _ (key_itself x.key) (both _ _ (yes _ (eqb_refl x.rcid)) (yes _ (eqb_refl x.place))))

same_is : (x y : Danger) → same x y ≡ true → x ≡ y
same_is x y e =
    let legs : x.leg ≡ y.leg = eqb-true _ _ (left _ _ e) in
    let behind = right _ _ e in
    let keys : x.key ≡ y.key = key_same _ _ (left _ _ behind) in
    let rest = right _ _ behind in
    let rcids : x.rcid ≡ y.rcid = eqb-true _ _ (left _ _ rest) in
    let places : x.place ≡ y.place = eqb-true _ _ (right _ _ rest) in
    λ i. record { leg = legs i; key = keys i; rcid = rcids i; place = places i }

-- rows tie in their order exactly where they are the same
ties : (x y : Danger) → same x y ≡ eq_by_cmp danger_cmp x y
ties x y =
    same_tests _ _
    (λ e. ap (λ (z : Danger). eq_by_cmp danger_cmp x z) (sym (same_is x y e)) ∙ ap is_eq (tied_itself danger_total x))
    (λ e. ap (λ (z : Danger). same x z) (sym (tie_is_same x y (tied (danger_cmp x y) e))) ∙ same_itself x)

same_equivalence : IsEquivalence same
same_equivalence = subst IsEquivalence (λ i x y. sym (ties x y) i) (eq_by_cmp_equiv danger_total)

pub once_ordered : (xs ys : List Danger) → IsSorted danger_cmp xs → ys ≡ dedup same xs → AllPairs (λ x y. danger_cmp x y ≡ Less) ys
once_ordered xs ys sorted e =
    subst (λ (l : List Danger). AllPairs (λ x y. danger_cmp x y ≡ Less) l) (sym e)
    (λ i j d lt within. Less-from_sorted danger_cmp (dedup same xs) i j d (IsStrictlySortedBy-dedup danger_total ties xs sorted) lt within)

pub once_same : (xs ys zs : List Danger) → IsPermutation xs ys → zs ≡ dedup same ys → (danger : Danger) → Contains zs danger ↔ Contains xs danger
once_same xs ys zs moved e danger = (
  λ h. Contains-permutation ys xs danger (IsPermutation-sym xs ys moved) (Contains-from_dedup same ys danger (subst (λ (l : List Danger). Contains l danger) e h)),
  λ h. subst (λ (l : List Danger). Contains l danger) (sym e) (Contains-dedup same_equivalence same_is ys danger (Contains-permutation xs ys danger moved h)),
)

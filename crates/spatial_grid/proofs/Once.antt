-- Names in order, each once.
use Rattle.std.proofs.Common.{◌≡◌, Bool, true, false, cond, ◌&&◌, T, ℕ, ◌+◌, ◌≤◌, List, [], ◌∷◌, length, refl, sym, ap, ◌∙◌, subst, arith}
use Rattle.std.specs.Prelude.{◌↔◌, ◌==◌, AllPairs}
use Rattle.std.specs.List.{Contains, dedup, dedup_from}
use Rattle.std.specs.List.Sorted.{IsSorted, IsPermutation}
use Rattle.std.specs.declared.cmp.Ordering.TheVariants.{Less}
use Rattle.std.specs.Ordering.{is_eq, eq_by_cmp}
use Rattle.std.specs.Cmp.{IsEquivalence, tied_itself}
use Rattle.std.proofs.lemmas.Bool.{eqb-true}
use Rattle.std.proofs.lemmas.Cmp.{eq_by_cmp_equiv}
use Rattle.std.proofs.lemmas.List.Kept.{IsStrictlySortedBy-dedup, Contains-dedup, Contains-from_dedup}
use Rattle.std.proofs.lemmas.List.Sorted.{Contains-permutation, IsPermutation-sym, length_permutation}
use Rattle.std.proofs.lemmas.Map.Keys.{Less-from_sorted}
use Rattle.std.proofs.Math.Dec.{eqb_refl}
use Rattle.chart_model.specs.declared.name.Name.{Name}
use Rattle.chart_model.specs.Names.{name_cmp}
use Rattle.chart_model.proofs.Names.{name_cmp-total, name_cmp-IsAntisymmetric}
use Rattle.chart_model.proofs.Maps.{tied}

abbrev pub same : Name → Name → Bool
same x y = (x.rcnm == y.rcnm) && (x.rcid == y.rcid)

same_tests : (p q : Bool) → (p ≡ true → q ≡ true) → (q ≡ true → p ≡ true) → p ≡ q
same_tests true true to from = refl
same_tests true false to from = sym (to refl)
same_tests false true to from = from refl
same_tests false false to from = refl

both : (p q : Bool) → p ≡ true → q ≡ true → (p && q) ≡ true
both true q a b = b
both false q a b = a

left : (p q : Bool) → (p && q) ≡ true → p ≡ true
left true q e = refl
left false q e = e

right : (p q : Bool) → (p && q) ≡ true → q ≡ true
right true q e = e
right false q e = absurd (subst T (sym e) tt)

yes : (b : Bool) → T b → b ≡ true
yes true h = refl
yes false h = absurd h

same_itself : (x : Name) → same x x ≡ true
same_itself x = both _ _ (yes _ (eqb_refl x.rcnm)) (yes _ (eqb_refl x.rcid))

same_is : (x y : Name) → same x y ≡ true → x ≡ y
same_is x y e =
    let kinds : x.rcnm ≡ y.rcnm = eqb-true _ _ (left _ _ e) in
    let numbers : x.rcid ≡ y.rcid = eqb-true _ _ (right _ _ e) in
    λ i. record { rcnm = kinds i; rcid = numbers i }

-- names tie in their order exactly where they are the same
ties : (x y : Name) → same x y ≡ eq_by_cmp name_cmp x y
ties x y =
    same_tests _ _
    (λ e. ap (λ (z : Name). eq_by_cmp name_cmp x z) (sym (same_is x y e)) ∙ ap is_eq (tied_itself name_cmp-total x))
    (λ e. ap (λ (z : Name). same x z) (sym (name_cmp-IsAntisymmetric x y (tied (name_cmp x y) e))) ∙ same_itself x)

same_equivalence : IsEquivalence same
same_equivalence = subst IsEquivalence (λ i x y. sym (ties x y) i) (eq_by_cmp_equiv name_cmp-total)

pub once_ordered : (xs ys : List Name) → IsSorted name_cmp xs → ys ≡ dedup same xs → AllPairs (λ x y. name_cmp x y ≡ Less) ys
once_ordered xs ys sorted e =
    subst (λ (l : List Name). AllPairs (λ x y. name_cmp x y ≡ Less) l) (sym e)
    (λ i j d lt within. Less-from_sorted name_cmp (dedup same xs) i j d (IsStrictlySortedBy-dedup name_cmp-total ties xs sorted) lt within)

pub once_same : (xs ys zs : List Name) → IsPermutation xs ys → zs ≡ dedup same ys → (name : Name) → Contains zs name ↔ Contains xs name
once_same xs ys zs moved e name = (
  λ h. Contains-permutation ys xs name (IsPermutation-sym xs ys moved) (Contains-from_dedup same ys name (subst (λ (l : List Name). Contains l name) e h)),
  λ h. subst (λ (l : List Name). Contains l name) (sym e) (Contains-dedup same_equivalence same_is ys name (Contains-permutation xs ys name moved h)),
)

no_more_of : (b : Bool) (k : Name) (p q : List Name) (n : ℕ) → length p ≤ n → length q ≤ n → length (cond b p (k ∷ q)) ≤ n + 1
no_more_of true k p q n a b = omega (arith, a)
no_more_of false k p q n a b = omega (arith, b)

no_more_from : (k : Name) (xs : List Name) → length (dedup_from same k xs) ≤ length xs + 1
no_more_from k [] = omega arith
no_more_from k (x ∷ xs) =
    omega (arith, no_more_of (same x k) k (dedup_from same k xs) (dedup_from same x xs) (length xs + 1) (no_more_from k xs) (no_more_from x xs))

no_more : (xs : List Name) → length (dedup same xs) ≤ length xs
no_more [] = omega arith
no_more (x ∷ xs) = omega (arith, no_more_from x xs)

pub once_no_more : (xs ys zs : List Name) → IsPermutation xs ys → zs ≡ dedup same ys → length zs ≤ length xs
once_no_more xs ys zs moved e = omega (arith, ap length e, no_more ys, length_permutation xs ys moved)

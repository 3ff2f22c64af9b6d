-- The sum of a number of each value of a finite map, when one value is put in.
use Rattle.std.proofs.Common.{◌≡◌, ℕ, ◌+◌, ◌≤◌, true, false, cond, T, List, [], ◌∷◌, map, sum_by, Option, Some, None}
use Rattle.std.proofs.Common.{arith, refl, sym, ◌∙◌, ap, subst}
use Rattle.std.specs.declared.cmp.Ordering.{Ordering}
use Rattle.std.specs.declared.cmp.Ordering.TheVariants.{Less, Equal, Greater}
use Rattle.std.specs.Ordering.{is_eq, eq_by_cmp}
use Rattle.std.specs.Cmp.{IsTotalOrder}
use Rattle.std.specs.FinMap as finite
use Rattle.std.specs.FinMap.{FinMap, find, is_sorted}
use Rattle.std.specs.FinMap.Entries.{put, by_order, below_all}
use Rattle.std.proofs.lemmas.List.Sums.{sum_by-cons}
use Rattle.chart_model.proofs.SortedEntries.{first, second, less}

-- the values' weights in all
abbrev pub weight_of : {K X : Type 0} → (X → ℕ) → List (K × X) → ℕ
weight_of weight es = sum_by weight (map (λ e. e.1) es)

-- that of a value, where there is one
abbrev pub weight_found : {X : Type 0} → (X → ℕ) → Option X → ℕ
weight_found weight None = 0
weight_found weight (Some x) = weight x

cons : {K X : Type 0} (weight : X → ℕ) (e : K × X) (es : List (K × X)) →
    weight_of weight (e ∷ es) ≡ weight e.1 + weight_of weight es
cons weight e es = sum_by-cons weight e.1 (map (λ e. e.1) es)

module _ {K X : Type 0} {R : K → K → Ordering} (total : IsTotalOrder R) where
  not_found : (k q : K) (es : List (K × X)) → R k q ≡ Less → T (below_all R q es) → find R k es ≡ None
  not_found k q [] p h = refl
  not_found k q (e ∷ es) p h =
      ap (λ r. cond (is_eq r) (Some e.1) (find R k es)) (total.trans k q e.0 p (less _ (first _ _ h)))
      ∙ not_found k q es p (second _ _ h)

  -- what was there before gives way to what is put
  pub weight_of-put : (weight : X → ℕ) (k : K) (v : X) (es : List (K × X)) → T (is_sorted R es)
      → weight_of weight (put R k v es) + weight_found weight (find R k es) ≡ weight_of weight es + weight v
  weight_of-put weight k v [] h = omega (arith, cons weight (k, v) [])
  weight_of-put weight k v (e ∷ es) h =
      elim (R k e.0) as (λ r. R k e.0 ≡ r → weight_of weight (by_order r ((k, v) ∷ e ∷ es) ((e.0, v) ∷ es)
      (e ∷ put R k v es)) + weight_found weight (cond (is_eq r) (Some e.1) (find R k es)) ≡ weight_of weight
      (e ∷ es) + weight v) [
        | Less ↦ λ p. omega (
          arith,
          cons weight (k, v) (e ∷ es),
          ap (weight_found weight)
              (not_found k e.0 es p (first _ _ h)),
        )
        | Equal ↦ λ p. omega (arith, cons weight (e.0, v) es, cons weight e es)
        | Greater ↦ λ p. omega (
          arith,
          cons weight e (put R k v es),
          cons weight e es,
          weight_of-put weight k v es
              (second _ _ h),
        )
      ] refl

  pub weight-insert : (weight : X → ℕ) (m : FinMap R X) (k : K) (v : X)
      → sum_by weight (finite.values (finite.insert m k v)) + weight_found weight (finite.get m k) ≡ sum_by weight
      (finite.values m) + weight v
  weight-insert weight m k v =
      ap (λ es. weight_of weight es + weight_found weight (finite.get m k)) (finite.entries-insert total m k v)
      ∙ ap (λ o. weight_of weight (put R k v (finite.entries m)) + weight_found weight o) (finite.get-entries m k)
      ∙ weight_of-put weight k v (finite.entries m) (finite.entries_sorted m)

-- no value weighs more than all
weight_found-le : {K X : Type 0} (R : K → K → Ordering) (weight : X → ℕ) (k : K) (es : List (K × X)) →
    weight_found weight (find R k es) ≤ weight_of weight es
weight_found-le R weight k [] = omega arith
weight_found-le R weight k (e ∷ es) =
    elim (eq_by_cmp R k e.0) as (λ b. weight_found weight (cond b (Some e.1) (find R k es)) ≤ weight_of weight
    (e ∷ es)) [
      | true ↦ omega (arith, cons weight e es)
      | false ↦ omega (arith, cons weight e es, weight_found-le R weight k es)
    ]

pub weight-get : {K X : Type 0} {R : K → K → Ordering} (weight : X → ℕ) (m : FinMap R X) (k : K) →
    weight_found weight (finite.get m k) ≤ sum_by weight (finite.values m)
weight-get {R = R} weight m k = subst (λ o. weight_found weight o ≤ weight_of weight (finite.entries m))
    (sym (finite.get-entries m k)) (weight_found-le R weight k (finite.entries m))

-- A fact of each entry of a map, after each change.
use Rattle.std.proofs.Common.{◌≡◌, true, false, cond, Some, None, IfSome, T, refl, sym, subst, ◌∙◌}
use Rattle.std.specs.declared.cmp.Ordering.{Ordering}
use Rattle.std.specs.declared.cmp.Ordering.TheVariants.{Less, Equal, Greater}
use Rattle.std.specs.Ordering.{is_eq, eq_by_cmp}
use Rattle.std.specs.Cmp.{IsTotalOrder}
use Rattle.std.specs.FinMap as map
use Rattle.std.specs.FinMap.{FinMap, IsAntisymmetric}

pub tied : (r : Ordering) → is_eq r ≡ true → r ≡ Equal
tied Less e = absurd (subst T (sym e) tt)
tied Equal e = refl
tied Greater e = absurd (subst T (sym e) tt)

module _ {K X : Type 0} {R : K → K → Ordering} where
  -- each entry of the map has the fact
  abbrev pub Each : (K → X → Type 0) → FinMap R X → Type 0
  Each P m = (q : K) → IfSome (map.get m q) (P q)

  module _ (total : IsTotalOrder R) where
    pub each-insert : IsAntisymmetric R → (P : K → X → Type 0) (m : FinMap R X) (k : K) (v : X) → Each P m → P k v → Each P (map.insert m k v)
    each-insert same P m k v each here q =
        subst (λ o. IfSome o (P q)) (sym (map.get-insert total m k v q))
        (elim (eq_by_cmp R q k) as (λ b. eq_by_cmp R q k ≡ b → IfSome (cond b (Some v) (map.get m q)) (P q)) [
          | true ↦ λ e. subst (λ x. P x v) (sym (same q k (tied (R q k) e))) here
          | false ↦ λ e. each q
        ] refl)

    pub each-remove : (P : K → X → Type 0) (m : FinMap R X) (k : K) → Each P m → Each P (map.remove m k)
    each-remove P m k each q =
        subst (λ o. IfSome o (P q)) (sym (map.get-remove total m k q))
        (elim (eq_by_cmp R q k) as (λ b. IfSome (cond b None (map.get m q)) (P q)) [
          | true ↦ tt
          | false ↦ each q
        ])

pub each-empty : {K X : Type 0} (R : K → K → Ordering) (P : K → X → Type 0) → Each P (map.empty {R = R})
each-empty {X = X} R P q = subst (λ o. IfSome o (P q)) (sym (map.get-empty {X = X} R q)) tt

-- to take out what is not there changes nothing
pub remove-absent : {K X : Type 0} {R : K → K → Ordering} → IsTotalOrder R → IsAntisymmetric R → (m : FinMap R X) (k : K) → map.get m k ≡ None → map.remove m k ≡ m
remove-absent {R = R} total same m k absent =
    map.same_map total same _ _ (λ q.
    map.get-remove total m k q
    ∙ elim (eq_by_cmp R q k) as (λ b. eq_by_cmp R q k ≡ b → cond b None (map.get m q) ≡ map.get m q) [
      | true ↦ λ e. sym absent ∙ map.get_tied total m q k (tied (R q k) e)
      | false ↦ λ e. refl
    ] refl)

-- to put what is there already changes nothing
pub insert-same : {K X : Type 0} {R : K → K → Ordering} → IsTotalOrder R → IsAntisymmetric R → (m : FinMap R X) (k : K) (v : X) → map.get m k ≡ Some v → map.insert m k v ≡ m
insert-same {R = R} total same m k v there =
    map.same_map total same _ _ (λ q.
    map.get-insert total m k v q
    ∙ elim (eq_by_cmp R q k) as (λ b. eq_by_cmp R q k ≡ b → cond b (Some v) (map.get m q) ≡ map.get m q) [
      | true ↦ λ e. sym there ∙ map.get_tied total m q k (tied (R q k) e)
      | false ↦ λ e. refl
    ] refl)

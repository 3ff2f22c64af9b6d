-- What a tree's entries are as a finite map.
use Rattle.std.proofs.Common.{◌≡◌, cond, List, [], ◌∷◌, length, Option, Some, None, ap, arith, refl, sym, ◌∙◌}
use Rattle.std.specs.declared.cmp.Ordering.{Ordering}
use Rattle.std.specs.Ordering.{eq_by_cmp}
use Rattle.std.specs.Cmp.{IsTotalOrder, eq_by_cmp_equiv}
use Rattle.std.specs.List.Sorted.{IsStrictlySortedBy}
use Rattle.std.specs.Map.{keys_of, lookup}
use Rattle.std.specs.BTreeMap.{is_at}
use Rattle.std.specs.FinMap as map
use Rattle.std.specs.FinMap.{FinMap, IsAntisymmetric, find}
use Rattle.std.specs.FinMap.Entries.{put, by_order}

no-length : {A : Type 0} (xs : List A) → length xs ≡ 0 → xs ≡ []
no-length [] e = refl
no-length (x ∷ xs) e = absurd (omega (arith, e))

pub entries-empty : {K : Type 0} (R : K → K → Ordering) (X : Type 0) → map.entries (map.empty {X = X} {R = R}) ≡ []
entries-empty R X = no-length _ (sym (map.len-entries (map.empty {X = X} {R = R})) ∙ map.len-empty R X)

module _ {K X : Type 0} {R : K → K → Ordering} (total : IsTotalOrder R) where
  pub lookup-find : (q : K) (es : List (K × X)) → lookup (is_at (R q)) es ≡ find R q es
  lookup-find q [] = refl
  lookup-find q (e ∷ es) = ap (cond (eq_by_cmp R q e.0) (Some e.1)) (lookup-find q es)

  pub get-tree : (es : List (K × X)) (q : K) → map.get (map.from_entries {R = R} es) q ≡ lookup (is_at (R q)) es
  get-tree es q = map.get-from_entries total es q ∙ sym (lookup-find q es)

  turned : (k q : K) (w x : Option X) → cond (eq_by_cmp R k q) w x ≡ cond (eq_by_cmp R q k) w x
  turned k q w x = ap (λ b. cond b w x) ((eq_by_cmp_equiv total).symm k q)

  pub insert-tree : IsAntisymmetric R → (old new : List (K × X)) (k : K) (v : X)
      → ((q : K) → lookup (is_at (R q)) new ≡ cond (is_at (R k) q) (Some v) (lookup (is_at (R q)) old))
      → map.from_entries {R = R} new ≡ map.insert (map.from_entries old) k v
  insert-tree same old new k v is =
      map.same_map total same _ _ (λ q.
      get-tree new q ∙ is q ∙ turned k q _ _
      ∙ ap (cond (eq_by_cmp R q k) (Some v)) (sym (get-tree old q))
      ∙ sym (map.get-insert total _ k v q))

  pub remove-tree : IsAntisymmetric R → (old new : List (K × X)) (k : K)
      → ((q : K) → lookup (is_at (R q)) new ≡ cond (is_at (R k) q) None (lookup (is_at (R q)) old))
      → map.from_entries {R = R} new ≡ map.remove (map.from_entries old) k
  remove-tree same old new k is =
      map.same_map total same _ _ (λ q.
      get-tree new q ∙ is q ∙ turned k q _ _
      ∙ ap (cond (eq_by_cmp R q k) None) (sym (get-tree old q))
      ∙ sym (map.get-remove total _ k q))

  -- what a lookup in the tree finds is what the map that the tree is seen as has
  pub get-seen : (es : List (K × X)) (m : FinMap R X) (q : K) → map.from_entries es ≡ m → lookup (is_at (R q)) es ≡ map.get m q
  get-seen es m q seen = sym (get-tree es q) ∙ ap (λ n. map.get n q) seen

  -- a tree's entries stand in the keys' order, and are the map's
  pub entries-tree : (es : List (K × X)) → IsStrictlySortedBy R (keys_of es) → map.entries (map.from_entries {R = R} es) ≡ es
  unfolding IsStrictlySortedBy
  entries-tree [] sorted = entries-empty R X
  entries-tree (e ∷ []) sorted = map.entries-insert total (map.from_entries []) e.0 e.1 ∙ ap (put R e.0 e.1) (entries-empty R X)
  entries-tree (e ∷ f ∷ es) sorted =
      map.entries-insert total (map.from_entries (f ∷ es)) e.0 e.1
      ∙ ap (put R e.0 e.1) (entries-tree (f ∷ es) sorted.1)
      ∙ ap (λ o. by_order o (e ∷ f ∷ es) ((f.0, e.1) ∷ es) (f ∷ put R e.0 e.1 es)) sorted.0.0

  pub len-seen : (es : List (K × X)) (m : FinMap R X) → IsStrictlySortedBy R (keys_of es) → map.from_entries es ≡ m → length es ≡ map.len m
  len-seen es m sorted seen = sym (ap length (entries-tree es sorted)) ∙ sym (map.len-entries _) ∙ ap map.len seen

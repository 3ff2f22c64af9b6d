-- Items that stand in one block, in the strictly rising order of their keys: found, put and taken out.
use Rattle.std.proofs.Common.{◌≡◌, ℕ, suc, zero, ◌<◌, ◌≤◌, Bool, true, false, cond, not, T, List, [], ◌∷◌, length, map, slice_index_or, slice_set, Some, None, arith, refl, sym, ap, subst, ◌∙◌, add-one}
use Rattle.std.specs.declared.cmp.Ordering.{Ordering}
use Rattle.std.specs.declared.cmp.Ordering.TheVariants.{Less, Equal, Greater}
use Rattle.std.specs.Ordering.{is_lt, is_eq, eq_by_cmp, ordering_reverse, ordering_index}
use Rattle.std.specs.Cmp.{IsTotalOrder, alike_right, eq_by_cmp_equiv}
use Rattle.std.specs.List.{HoldsAt, insert, remove}
use Rattle.std.specs.List.Sorted.{IsNonDecreasingBy, IsPartitionPoint}
use Rattle.std.specs.FinMap as finite
use Rattle.std.specs.FinMap.{FinMap, IsAntisymmetric, find, is_sorted}
use Rattle.std.specs.FinMap.Entries.{put, is_sorted-put, is_sorted-where_key, find-where_key}
use Rattle.std.proofs.lemmas.List.Sorted.{searchable_from_sorted}
use Rattle.chart_model.proofs.Maps.{remove-absent}
use Rattle.chart_model.proofs.SortedEntries.{first, second, less, find-present, find-absent, entries-set, entries-insert, entries-remove}

turned : {A : Type 0} (b : Bool) (x y : A) → cond (not b) x y ≡ cond b y x
turned true x y = refl
turned false x y = refl

module _ {A K X : Type 0} {R : K → K → Ordering} (total : IsTotalOrder R) (key : A → K) (value : A → X) where
  -- keys and values, in the items' order
  abbrev pub entries_of : List A → List (K × X)
  entries_of xs = map (λ x. (key x, value x)) xs

  abbrev pub IsRising : List A → Type 0
  IsRising xs = T (is_sorted R (entries_of xs))

  -- the block as a map
  abbrev pub map_of : List A → FinMap R X
  map_of xs = finite.from_sorted (entries_of xs)

  rising-next : (xs : List A) (k : ℕ) (d : A) → IsRising xs → suc k < length xs → is_lt (R (key (slice_index_or xs (suc k) d)) (key (slice_index_or xs k d))) ≡ false
  rising-next [] k d rising fits = absurd (omega (arith, fits))
  rising-next (x ∷ []) k d rising fits = absurd (omega (arith, fits))
  rising-next (x ∷ y ∷ xs) zero d rising fits =
      ap is_lt (total.antisymm (key y) (key x) ∙ ap ordering_reverse (less (R (key x) (key y)) (first _ _ (first _ _ rising))))
  rising-next (x ∷ y ∷ xs) (suc k) d rising fits = rising-next (y ∷ xs) k d (second _ _ rising) (omega (arith, fits))

  -- so a search finds its way
  pub searchable : (xs : List A) (k : K) → IsRising xs → IsNonDecreasingBy (λ x. ordering_index (R (key x) k)) xs
  searchable xs k rising =
      searchable_from_sorted total key xs k
      (λ i d low fits. ap (λ n. is_lt (R (key (slice_index_or xs n d)) (key (slice_index_or xs i d)))) (add-one i) ∙ rising-next xs i d rising (omega (arith, fits)))

  module _ (same : IsAntisymmetric R) (xs : List A) (k : K) (rising : IsRising xs) where
    -- the value that stands under a key, and none
    pub value-present : (i : ℕ) (d : A) → i < length xs → HoldsAt (λ x. R (key x) k ≡ Equal) xs i → finite.get (map_of xs) k ≡ Some (value (slice_index_or xs i d))
    value-present i d fits at = finite.get-from_sorted R (entries_of xs) k rising ∙ find-present total key value k xs i d fits at rising

    pub value-absent : (i : ℕ) → i ≤ length xs → IsPartitionPoint (λ x. R (key x) k ≡ Less) (λ x. R (key x) k ≡ Greater) xs i → finite.get (map_of xs) k ≡ None
    value-absent i fits parted = finite.get-from_sorted R (entries_of xs) k rising ∙ find-absent total key value k xs i fits parted

    -- what a value that is put into its place leaves
    abbrev pub IsPut : List A → X → Type 0
    IsPut new v = (map_of new ≡ finite.insert (map_of xs) k v) × IsRising new

    is-put : (new : List A) (v : X) → entries_of new ≡ put R k v (entries_of xs) → IsPut new v
    is-put new v is =
        let rises : IsRising new = subst (λ es. T (is_sorted R es)) (sym is) (is_sorted-put R total k v (entries_of xs) rising) in (
          finite.same_entries_map _ _
              (finite.entries-from_sorted R _ rises
              ∙ is
              ∙ ap (put R k v) (sym (finite.entries-from_sorted R _ rising))
              ∙ sym (finite.entries-insert total (map_of xs) k v)),
          rises,
        )

    pub put-present : (i : ℕ) (a : A) → key a ≡ k → i < length xs → HoldsAt (λ x. R (key x) k ≡ Equal) xs i → IsPut (slice_set xs i a) (value a)
    put-present i a is fits at = is-put _ (value a) (entries-set total key value same k xs i a is fits at rising)

    pub put-absent : (i : ℕ) (a : A) → key a ≡ k → i ≤ length xs → IsPartitionPoint (λ x. R (key x) k ≡ Less) (λ x. R (key x) k ≡ Greater) xs i
        → IsPut (insert xs i a) (value a)
    put-absent i a is fits parted = is-put _ (value a) (entries-insert total key value k xs i a is fits parted)

    -- what stays without the value under the key
    pub remove-present : (i : ℕ) → i < length xs → HoldsAt (λ x. R (key x) k ≡ Equal) xs i
        → (map_of (remove xs i) ≡ finite.remove (map_of xs) k) × IsRising (remove xs i)
    remove-present i fits at =
        let is = entries-remove total key value k xs i fits at rising in
        let rises : IsRising (remove xs i) = subst (λ es. T (is_sorted R es)) (sym is) (is_sorted-where_key R (λ q. not (eq_by_cmp R k q)) (entries_of xs) rising) in (
          finite.same_map total same _ _ (λ q.
              finite.get-from_sorted R (entries_of (remove xs i)) q rises
              ∙ ap (find R q) is
              ∙ find-where_key R (λ x. not (eq_by_cmp R k x)) q (λ x t. ap (λ o. not (is_eq o)) (sym (alike_right total q x k t))) (entries_of xs)
              ∙ turned (eq_by_cmp R k q) _ _
              ∙ ap (λ b. cond b None (find R q (entries_of xs))) ((eq_by_cmp_equiv total).symm k q)
              ∙ ap (cond (eq_by_cmp R q k) None) (sym (finite.get-from_sorted R (entries_of xs) q rising))
              ∙ sym (finite.get-remove total (map_of xs) k q)),
          rises,
        )

    pub remove-missing : (i : ℕ) → i ≤ length xs → IsPartitionPoint (λ x. R (key x) k ≡ Less) (λ x. R (key x) k ≡ Greater) xs i
        → map_of xs ≡ finite.remove (map_of xs) k
    remove-missing i fits parted = sym (remove-absent total same (map_of xs) k (value-absent i fits parted))

-- Items in the strictly rising order of their keys, as a finite map.
use Rattle.std.proofs.Common.{◌≡◌, ℕ, zero, suc, ◌<◌, ◌≤◌, Bool, true, false, cond, not, ◌&&◌, T, List, [], ◌∷◌, length, map, slice_set, slice_index_or, Some, None, arith, refl, sym, ap, ◌∙◌}
use Rattle.std.specs.declared.cmp.Ordering.{Ordering}
use Rattle.std.specs.declared.cmp.Ordering.TheVariants.{Less, Equal, Greater}
use Rattle.std.specs.Ordering.{is_lt, is_eq, eq_by_cmp, ordering_reverse}
use Rattle.std.specs.Cmp.{IsTotalOrder, alike_right}
use Rattle.std.specs.List.{HoldsAt, insert, remove}
use Rattle.std.specs.List.Sorted.{IsPartitionPoint}
use Rattle.std.specs.FinMap.{find, is_sorted}
use Rattle.std.specs.FinMap.Entries.{put, by_order, where_key, below_all}

pub first : (a b : Bool) → T (a && b) → T a
first true b p = tt
first false b p = p

pub second : (a b : Bool) → T (a && b) → T b
second true b p = p
second false b p = absurd p

pub less : (o : Ordering) → T (is_lt o) → o ≡ Less
less Less p = refl
less Equal p = absurd p
less Greater p = absurd p

module _ {A K X : Type 0} {R : K → K → Ordering} (total : IsTotalOrder R) (key : A → K) (value : A → X) where
  -- keys and values, in the items' order
  abbrev pub entries_of : List A → List (K × X)
  entries_of xs = map (λ x. (key x, value x)) xs

  abbrev pub IsBelow : K → A → Type 0
  IsBelow k x = R (key x) k ≡ Less

  abbrev pub IsAbove : K → A → Type 0
  IsAbove k x = R (key x) k ≡ Greater

  abbrev pub IsAt : K → A → Type 0
  IsAt k x = R (key x) k ≡ Equal

  turn : (k : K) (x : A) (o : Ordering) → R (key x) k ≡ o → R k (key x) ≡ ordering_reverse o
  turn k x o e = total.antisymm k (key x) ∙ ap ordering_reverse e

  put-above : (k : K) (v : X) (xs : List A) → ((d : A) → 0 < length xs → IsAbove k (slice_index_or xs 0 d)) → put R k v (entries_of xs) ≡ (k, v) ∷ entries_of xs
  put-above k v [] above = refl
  put-above k v (x ∷ xs) above = ap (λ o. by_order o ((k, v) ∷ entries_of (x ∷ xs)) ((key x, v) ∷ entries_of xs) ((key x, value x) ∷ put R k v (entries_of xs))) (turn k x Greater (above x (omega arith)))

  put-below : (k : K) (v : X) (x : A) (xs : List A) → IsBelow k x → put R k v (entries_of (x ∷ xs)) ≡ (key x, value x) ∷ put R k v (entries_of xs)
  put-below k v x xs below = ap (λ o. by_order o ((k, v) ∷ entries_of (x ∷ xs)) ((key x, v) ∷ entries_of xs) ((key x, value x) ∷ put R k v (entries_of xs))) (turn k x Less below)

  -- an item whose key is new, between the lower ones and the higher ones
  pub entries-insert : (k : K) (xs : List A) (i : ℕ) (a : A) → key a ≡ k → i ≤ length xs → IsPartitionPoint (IsBelow k) (IsAbove k) xs i
      → entries_of (insert xs i a) ≡ put R k (value a) (entries_of xs)
  entries-insert k [] zero a is fits parted = ap (λ q. (q, value a) ∷ []) is
  entries-insert k [] (suc i) a is fits parted = absurd (omega (arith, fits))
  entries-insert k (x ∷ xs) zero a is fits parted =
      ap (λ q. (q, value a) ∷ entries_of (x ∷ xs)) is
      ∙ sym (put-above k (value a) (x ∷ xs) (λ d s. parted.1 0 d (omega arith) s))
  entries-insert k (x ∷ xs) (suc i) a is fits parted =
      ap (λ es. (key x, value x) ∷ es)
      (entries-insert k xs i a is (omega (arith, fits)) (λ n d a b. parted.0 (suc n) d (omega arith) (omega (arith, b)), λ n d a b. parted.1 (suc n) d (omega (arith, a)) (omega (arith, b))))
      ∙ sym (put-below k (value a) x xs (parted.0 0 x (omega arith) (omega arith)))

  -- no item has a key that is new
  pub find-absent : (k : K) (xs : List A) (i : ℕ) → i ≤ length xs → IsPartitionPoint (IsBelow k) (IsAbove k) xs i → find R k (entries_of xs) ≡ None
  find-absent k [] i fits parted = refl
  find-absent k (x ∷ xs) zero fits parted =
      ap (λ o. cond (is_eq o) (Some (value x)) (find R k (entries_of xs))) (turn k x Greater (parted.1 0 x (omega arith) (omega arith)))
      ∙ find-absent k xs zero (omega arith) (λ n d a b. absurd (omega (arith, b)), λ n d a b. parted.1 (suc n) d (omega arith) (omega (arith, b)))
  find-absent k (x ∷ xs) (suc i) fits parted =
      ap (λ o. cond (is_eq o) (Some (value x)) (find R k (entries_of xs))) (turn k x Less (parted.0 0 x (omega arith) (omega arith)))
      ∙ find-absent k xs i (omega (arith, fits)) (λ n d a b. parted.0 (suc n) d (omega arith) (omega (arith, b)), λ n d a b. parted.1 (suc n) d (omega (arith, a)) (omega (arith, b)))

  -- an item that stands before the one with the key k is below it
  below-at : (k : K) (x : A) (xs : List A) (i : ℕ) → i < length xs → HoldsAt (IsAt k) xs i → T (below_all R (key x) (entries_of xs)) → IsBelow k x
  below-at k x [] i fits at below = absurd (omega (arith, fits))
  below-at k x (y ∷ ys) zero fits at below = sym (alike_right total (key y) k (key x) (at y)) ∙ less _ (first _ _ below)
  below-at k x (y ∷ ys) (suc i) fits at below = below-at k x ys i (omega (arith, fits)) at (second _ _ below)

  -- the item with the key k
  pub find-present : (k : K) (xs : List A) (i : ℕ) (d : A) → i < length xs → HoldsAt (IsAt k) xs i → T (is_sorted R (entries_of xs))
      → find R k (entries_of xs) ≡ Some (value (slice_index_or xs i d))
  find-present k [] i d fits at sorted = absurd (omega (arith, fits))
  find-present k (x ∷ xs) zero d fits at sorted = ap (λ o. cond (is_eq o) (Some (value x)) (find R k (entries_of xs))) (turn k x Equal (at x))
  find-present k (x ∷ xs) (suc i) d fits at sorted =
      ap (λ o. cond (is_eq o) (Some (value x)) (find R k (entries_of xs))) (turn k x Less (below-at k x xs i (omega (arith, fits)) at (first _ _ sorted)))
      ∙ find-present k xs i d (omega (arith, fits)) at (second _ _ sorted)

  -- an item in the place of the one with its key
  pub entries-set : ((x y : K) → R x y ≡ Equal → x ≡ y) → (k : K) (xs : List A) (i : ℕ) (a : A) → key a ≡ k → i < length xs → HoldsAt (IsAt k) xs i → T (is_sorted R (entries_of xs))
      → entries_of (slice_set xs i a) ≡ put R k (value a) (entries_of xs)
  entries-set same k [] i a is fits at sorted = absurd (omega (arith, fits))
  entries-set same k (x ∷ xs) zero a is fits at sorted =
      ap (λ q. (q, value a) ∷ entries_of xs) (is ∙ sym (same (key x) k (at x)))
      ∙ sym (ap (λ o. by_order o ((k, value a) ∷ entries_of (x ∷ xs)) ((key x, value a) ∷ entries_of xs) ((key x, value x) ∷ put R k (value a) (entries_of xs))) (turn k x Equal (at x)))
  entries-set same k (x ∷ xs) (suc i) a is fits at sorted =
      ap (λ es. (key x, value x) ∷ es) (entries-set same k xs i a is (omega (arith, fits)) at (second _ _ sorted))
      ∙ sym (put-below k (value a) x xs (below-at k x xs i (omega (arith, fits)) at (first _ _ sorted)))

  kept : (k q : K) (o : Ordering) → R k q ≡ o → is_eq o ≡ false → not (eq_by_cmp R k q) ≡ true
  kept k q o e other = ap (λ r. not (is_eq r)) e ∙ ap not other

  all-kept : (k : K) (x : A) (xs : List A) → IsAt k x → T (below_all R (key x) (entries_of xs)) → where_key R (λ q. not (eq_by_cmp R k q)) (entries_of xs) ≡ entries_of xs
  all-kept k x [] at below = refl
  all-kept k x (y ∷ ys) at below =
      ap (λ b. cond b ((key y, value y) ∷ where_key R (λ q. not (eq_by_cmp R k q)) (entries_of ys)) (where_key R (λ q. not (eq_by_cmp R k q)) (entries_of ys)))
      (kept k (key y) Less (sym (total.congr (key x) k (key y) at) ∙ less _ (first _ _ below)) refl)
      ∙ ap (λ es. (key y, value y) ∷ es) (all-kept k x ys at (second _ _ below))

  -- without the item that has the key k
  pub entries-remove : (k : K) (xs : List A) (i : ℕ) → i < length xs → HoldsAt (IsAt k) xs i → T (is_sorted R (entries_of xs))
      → entries_of (remove xs i) ≡ where_key R (λ q. not (eq_by_cmp R k q)) (entries_of xs)
  entries-remove k [] i fits at sorted = absurd (omega (arith, fits))
  entries-remove k (x ∷ xs) zero fits at sorted =
      sym (all-kept k x xs (at x) (first _ _ sorted))
      ∙ ap (λ b. cond b ((key x, value x) ∷ where_key R (λ q. not (eq_by_cmp R k q)) (entries_of xs)) (where_key R (λ q. not (eq_by_cmp R k q)) (entries_of xs)))
      (sym (ap (λ o. not (is_eq o)) (turn k x Equal (at x))))
  entries-remove k (x ∷ xs) (suc i) fits at sorted =
      ap (λ es. (key x, value x) ∷ es) (entries-remove k xs i (omega (arith, fits)) at (second _ _ sorted))
      ∙ ap (λ b. cond b ((key x, value x) ∷ where_key R (λ q. not (eq_by_cmp R k q)) (entries_of xs)) (where_key R (λ q. not (eq_by_cmp R k q)) (entries_of xs)))
      (sym (kept k (key x) Greater (turn k x Less (below-at k x xs i (omega (arith, fits)) at (first _ _ sorted))) refl))

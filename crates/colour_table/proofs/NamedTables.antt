-- What a hash table's entries are as a finite map from names.
use Rattle.std.proofs.Common.{◌≡◌, cond, Bool, true, false, List, [], ◌∷◌, ℕ, Option, Some, None, ap, refl, sym, ◌∙◌}
use Rattle.std.specs.Prelude.{nat_eq, is_some}
use Rattle.std.proofs.lemmas.Bool.{true≢false}
use Rattle.std.specs.Ordering.{eq_by_cmp}
use Rattle.std.specs.Cmp.{IsTotalOrder}
use Rattle.std.specs.Cmp.Lexicographic.{pointwise, bytes_decides, texts_ties, nat_list_cmp_total}
use Rattle.std.specs.Global.{Vec}
use Rattle.std.specs.Map.{lookup, KeepsOthers}
use Rattle.std.specs.FinMap as map
use Rattle.std.specs.FinMap.{FinMap, IsAntisymmetric, find, nat_cmp-IsAntisymmetric, slice_cmp-IsAntisymmetric}
use Rattle.colour_table.specs.Named.{name_cmp, entries_of, with_new}

pub name_cmp-total : IsTotalOrder name_cmp
name_cmp-total = nat_list_cmp_total

pub name_cmp-IsAntisymmetric : IsAntisymmetric name_cmp
name_cmp-IsAntisymmetric = slice_cmp-IsAntisymmetric nat_cmp-IsAntisymmetric

abbrev same_key : Vec ℕ → Vec ℕ → Bool
same_key x y = pointwise nat_eq x.items y.items

module _ {X : Type 0} where
  find-entries : (q : List ℕ) (es : List (Vec ℕ × X)) → find name_cmp q (entries_of es) ≡ lookup (λ k. pointwise nat_eq q k.items) es
  find-entries q [] = refl
  find-entries q (e ∷ es) = λ i. cond (sym (texts_ties q e.0.items) i) (Some e.1) (find-entries q es i)

  get-entries : (es : List (Vec ℕ × X)) (q : List ℕ)
      → map.get (map.from_entries {R = name_cmp} (entries_of es)) q ≡ lookup (λ k. pointwise nat_eq q k.items) es
  get-entries es q = map.get-from_entries name_cmp-total (entries_of es) q ∙ find-entries q es

  -- what a search of the table finds is what the map that the table is seen as has
  pub get-seen : (es : List (Vec ℕ × X)) (m : FinMap name_cmp X) (q : List ℕ) → map.from_entries (entries_of es) ≡ m
      → lookup (λ k. pointwise nat_eq q k.items) es ≡ map.get m q
  get-seen es m q seen = sym (get-entries es q) ∙ ap (λ n. map.get n q) seen

  -- ---- a value that is put under a name

  found_at : (old new : List (Vec ℕ × X)) (k : Vec ℕ) (v : X) (q : List ℕ) (t : Bool) → pointwise nat_eq q k.items ≡ t
      → lookup (same_key k) new ≡ Some v → KeepsOthers same_key (same_key k) old new
      → lookup (λ x. pointwise nat_eq q x.items) new ≡ cond t (Some v) (lookup (λ x. pointwise nat_eq q x.items) old)
  unfolding KeepsOthers
  found_at old new k v q true here put kept =
      ap (λ l. lookup (λ x. pointwise nat_eq l x.items) new) ((bytes_decides q k.items).0 here) ∙ put
  found_at old new k v q false apart put kept =
      kept (λ x. pointwise nat_eq q x.items)
      (λ x y h. ap (λ l. pointwise nat_eq l y.items) ((bytes_decides q x.items).0 h))
      (λ x h. ap (pointwise nat_eq q) (sym ((bytes_decides k.items x.items).0 h)) ∙ apart)

  pub insert-table : (old new : List (Vec ℕ × X)) (k : Vec ℕ) (v : X)
      → lookup (same_key k) new ≡ Some v → KeepsOthers same_key (same_key k) old new
      → map.from_entries {R = name_cmp} (entries_of new) ≡ map.insert (map.from_entries (entries_of old)) k.items v
  insert-table old new k v put kept =
      map.same_map name_cmp-total name_cmp-IsAntisymmetric _ _ (λ q.
      get-entries new q
      ∙ found_at old new k v q (pointwise nat_eq q k.items) refl put kept
      ∙ (λ i. cond (texts_ties q k.items i) (Some v) (sym (get-entries old q) i))
      ∙ sym (map.get-insert name_cmp-total _ k.items v q))

  -- ---- the first value under each name

  abbrev pub with_each : FinMap name_cmp X → List (List ℕ × X) → FinMap name_cmp X
  with_each m [] = m
  with_each m (e ∷ es) = with_each (with_new m e) es

  abbrev or_else : Option X → Option X → Option X
  or_else (Some x) o = Some x
  or_else None o = o

  or_none : (o : Option X) → or_else o None ≡ o
  or_none (Some x) = refl
  or_none None = refl

  -- what is under a name once a value is put under another where there was none
  by_tests : (here there : Option X) (b t : Bool) (v : X) (o : Option X) → (t ≡ true → here ≡ there) → is_some there ≡ b
      → or_else (cond b here (cond t (Some v) here)) o ≡ or_else here (cond t (Some v) o)
  by_tests (Some x) there true t v o same is = refl
  by_tests (Some x) there false true v o same is = absurd (true≢false (ap is_some (same refl) ∙ is))
  by_tests (Some x) there false false v o same is = refl
  by_tests None there true true v o same is = absurd (true≢false (sym is ∙ ap is_some (sym (same refl))))
  by_tests None there true false v o same is = refl
  by_tests None there false true v o same is = refl
  by_tests None there false false v o same is = refl

  chosen : (b : Bool) (m n : FinMap name_cmp X) (q : List ℕ) → map.get (cond b m n) q ≡ cond b (map.get m q) (map.get n q)
  chosen true m n q = refl
  chosen false m n q = refl

  get-with_new : (m : FinMap name_cmp X) (e : List ℕ × X) (q : List ℕ) (o : Option X)
      → or_else (map.get (with_new m e) q) o ≡ or_else (map.get m q) (cond (eq_by_cmp name_cmp q e.0) (Some e.1) o)
  get-with_new m e q o =
      ap (λ (x : Option X). or_else x o)
      (chosen (map.contains_key m e.0) m (map.insert m e.0 e.1) q
      ∙ ap (cond (map.contains_key m e.0) (map.get m q)) (map.get-insert name_cmp-total m e.0 e.1 q))
      ∙ by_tests (map.get m q) (map.get m e.0) (map.contains_key m e.0) (eq_by_cmp name_cmp q e.0) e.1 o
      (λ h. ap (map.get m) ((bytes_decides q e.0).0 (texts_ties q e.0 ∙ h))) refl

  get-with_each : (m : FinMap name_cmp X) (es : List (List ℕ × X)) (q : List ℕ)
      → map.get (with_each m es) q ≡ or_else (map.get m q) (find name_cmp q es)
  get-with_each m [] q = sym (or_none (map.get m q))
  get-with_each m (e ∷ es) q = get-with_each (with_new m e) es q ∙ get-with_new m e q (find name_cmp q es)

  pub with_each-empty : (es : List (List ℕ × X)) → with_each map.empty es ≡ map.from_entries es
  with_each-empty es =
      map.same_map name_cmp-total name_cmp-IsAntisymmetric _ _ (λ q.
      get-with_each map.empty es q
      ∙ ap (λ (x : Option X). or_else x (find name_cmp q es)) (map.get-empty name_cmp q)
      ∙ sym (map.get-from_entries name_cmp-total es q))

-- A page's entries, found and changed.
use Rattle.std.proofs.Common.{◌≡◌, ℕ, ◌-◌, ◌<◌, ◌≤◌, Bool, true, ◌&&◌, T, List, [], ◌∷◌, length, map, slice_index_or, slice_set, Some, None, arith, refl, sym, ap, subst, ◌∙◌}
use Rattle.std.specs.declared.cmp.Ordering.{Ordering}
use Rattle.std.specs.declared.cmp.Ordering.TheVariants.{Less, Equal, Greater}
use Rattle.std.specs.Ordering.{is_lt, ordering_index}
use Rattle.std.specs.List.{HoldsAt, AllZip, insert, remove}
use Rattle.std.specs.List.Sorted.{IsNonDecreasingBy, IsPartitionPoint}
use Rattle.std.specs.FinMap as finite
use Rattle.std.specs.FinMap.{FinMap, is_sorted}
use Rattle.std.specs.FinMap.Entries.{put, below_all}
use Rattle.std.proofs.lemmas.List.Elements.{same_from_all_zip}
use Rattle.chart_model.specs.declared.name.Name.{Name}
use Rattle.chart_model.specs.Names.{name_cmp}
use Rattle.chart_model.proofs.Names.{name_cmp-total, name_cmp-IsAntisymmetric}
use Rattle.chart_model.proofs.Trees.{entries-empty}
use Rattle.chart_model.proofs.Blocks as block

own : {K X : Type 0} (es : List (K × X)) → map (λ e. (e.0, e.1)) es ≡ es
own [] = refl
own (e ∷ es) = ap (λ (l : List _). e ∷ l) (own es)

-- whether the names rise is told by the names alone
abbrev below_names : Name → List Name → Bool
below_names name [] = true
below_names name (n ∷ names) = is_lt (name_cmp name n) && below_names name names

abbrev names_rise : List Name → Bool
names_rise [] = true
names_rise (n ∷ names) = below_names n names && names_rise names

lowest : (o : Ordering) → ordering_index o ≤ 0 → o ≡ Less
lowest Less h = refl
lowest Equal h = absurd (omega (arith, h))
lowest Greater h = absurd (omega (arith, h))

module _ {X : Type 0} where
  abbrev pub IsRising : List (Name × X) → Type 0
  IsRising es = T (is_sorted name_cmp es)

  abbrev pub page_of_entries : List (Name × X) → FinMap name_cmp X
  page_of_entries es = finite.from_sorted es

  in-block : (es : List (Name × X)) → IsRising es → IsRising (map (λ e. (e.0, e.1)) es)
  in-block es rising = subst IsRising (sym (own es)) rising

  pub searchable : (es : List (Name × X)) (name : Name) → IsRising es → IsNonDecreasingBy (λ e. ordering_index (name_cmp e.0 name)) es
  searchable es name rising = block.searchable name_cmp-total (λ e. e.0) (λ e. e.1) es name (in-block es rising)

  -- a name behind the last one is behind them all
  pub all-below : (es : List (Name × X)) (name : Name) → IsRising es → 0 < length es → HoldsAt (λ e. name_cmp e.0 name ≡ Less) es (length es - 1)
      → IsPartitionPoint (λ e. name_cmp e.0 name ≡ Less) (λ e. name_cmp e.0 name ≡ Greater) es (length es)
  all-below es name rising some last = (
    λ k d low high. lowest _ (subst (λ (o : Ordering). ordering_index (name_cmp (slice_index_or es k d).0 name) ≤ ordering_index o) (last d) (searchable es name rising k (length es - 1) d (omega arith) (omega arith))),
    λ k d low high. absurd (omega arith),
  )

  module _ (es : List (Name × X)) (name : Name) (rising : IsRising es) where
    pub entry-present : (i : ℕ) (d : Name × X) → i < length es → HoldsAt (λ e. name_cmp e.0 name ≡ Equal) es i
        → finite.get (page_of_entries es) name ≡ Some (slice_index_or es i d).1
    entry-present i d fits at =
        ap (λ l. finite.get (page_of_entries l) name) (sym (own es))
        ∙ block.value-present name_cmp-total (λ e. e.0) (λ e. e.1) name_cmp-IsAntisymmetric es name (in-block es rising) i d fits at

    pub entry-absent : (i : ℕ) → i ≤ length es → IsPartitionPoint (λ e. name_cmp e.0 name ≡ Less) (λ e. name_cmp e.0 name ≡ Greater) es i
        → finite.get (page_of_entries es) name ≡ None
    entry-absent i fits parted =
        ap (λ l. finite.get (page_of_entries l) name) (sym (own es))
        ∙ block.value-absent name_cmp-total (λ e. e.0) (λ e. e.1) name_cmp-IsAntisymmetric es name (in-block es rising) i fits parted

    abbrev pub IsPut : List (Name × X) → X → Type 0
    IsPut new v = (page_of_entries new ≡ finite.insert (page_of_entries es) name v) × IsRising new

    out-of-block : (new : List (Name × X)) (f : FinMap name_cmp X → FinMap name_cmp X)
        → (page_of_entries (map (λ e. (e.0, e.1)) new) ≡ f (page_of_entries (map (λ e. (e.0, e.1)) es))) × IsRising (map (λ e. (e.0, e.1)) new)
        → (page_of_entries new ≡ f (page_of_entries es)) × IsRising new
    out-of-block new f h = (
      ap page_of_entries (sym (own new)) ∙ h.0 ∙ ap (λ l. f (page_of_entries l)) (own es),
      subst IsRising (own new) h.1,
    )

    pub entry-set : (v : X) (i : ℕ) → i < length es → HoldsAt (λ e. name_cmp e.0 name ≡ Equal) es i → IsPut (slice_set es i (name, v)) v
    entry-set v i fits at =
        out-of-block _ (λ m. finite.insert m name v)
        (block.put-present name_cmp-total (λ e. e.0) (λ e. e.1) name_cmp-IsAntisymmetric es name (in-block es rising) i (name, v) (λ _. name) fits at)

    -- the value of an entry edited in its place
    pub entry-edit : (i : ℕ) (entry : Name × X) → entry ≡ slice_index_or es i entry → i < length es → HoldsAt (λ e. name_cmp e.0 name ≡ Equal) es i
        → (finite.get (page_of_entries es) name ≡ Some entry.1) × ((v : X) → IsPut (slice_set es i (entry.0, v)) v)
    entry-edit i entry is fits at = (
      entry-present i entry fits at ∙ ap (λ (e : Name × X). Some e.1) (sym is),
      λ v. subst (λ (n : Name). IsPut (slice_set es i (n, v)) v) (sym (ap (λ e. e.0) is ∙ name_cmp-IsAntisymmetric _ name (at entry))) (entry-set v i fits at),
    )

    pub entry-insert : (v : X) (i : ℕ) → i ≤ length es → IsPartitionPoint (λ e. name_cmp e.0 name ≡ Less) (λ e. name_cmp e.0 name ≡ Greater) es i
        → IsPut (insert es i (name, v)) v
    entry-insert v i fits parted =
        out-of-block _ (λ m. finite.insert m name v)
        (block.put-absent name_cmp-total (λ e. e.0) (λ e. e.1) name_cmp-IsAntisymmetric es name (in-block es rising) i (name, v) (λ _. name) fits parted)

    pub entry-remove : (i : ℕ) → i < length es → HoldsAt (λ e. name_cmp e.0 name ≡ Equal) es i
        → (page_of_entries (remove es i) ≡ finite.remove (page_of_entries es) name) × IsRising (remove es i)
    entry-remove i fits at =
        out-of-block _ (λ m. finite.remove m name)
        (block.remove-present name_cmp-total (λ e. e.0) (λ e. e.1) name_cmp-IsAntisymmetric es name (in-block es rising) i fits at)

    pub entry-missing : (i : ℕ) → i ≤ length es → IsPartitionPoint (λ e. name_cmp e.0 name ≡ Less) (λ e. name_cmp e.0 name ≡ Greater) es i
        → page_of_entries es ≡ finite.remove (page_of_entries es) name
    entry-missing i fits parted =
        ap page_of_entries (sym (own es))
        ∙ block.remove-missing name_cmp-total (λ e. e.0) (λ e. e.1) name_cmp-IsAntisymmetric es name (in-block es rising) i fits parted
        ∙ ap (λ l. finite.remove (page_of_entries l) name) (own es)

  pub entry-alone : (name : Name) (v : X) → page_of_entries ((name, v) ∷ []) ≡ finite.insert finite.empty name v
  entry-alone name v =
      finite.same_entries_map _ _
      (finite.entries-from_sorted name_cmp ((name, v) ∷ []) tt
      ∙ ap (put name_cmp name v) (sym (entries-empty name_cmp X))
      ∙ sym (finite.entries-insert name_cmp-total finite.empty name v))

  below-names : (name : Name) (es : List (Name × X)) → below_all name_cmp name es ≡ below_names name (map (λ e. e.0) es)
  below-names name [] = refl
  below-names name (e ∷ es) = ap (λ b. is_lt (name_cmp name e.0) && b) (below-names name es)

  names-rise : (es : List (Name × X)) → is_sorted name_cmp es ≡ names_rise (map (λ e. e.0) es)
  names-rise [] = refl
  names-rise (e ∷ es) = λ i. below-names e.0 es i && names-rise es i

  -- clones of a page's entries
  module _ (named : Name → Name → Type 0) (clones : X → X → Type 0) (same : (x y : Name) → named x y → y ≡ x) where
    names-cloned : (es copies : List (Name × X)) → AllZip (λ x y. named x.0 y.0 × clones x.1 y.1) es copies → map (λ e. e.0) copies ≡ map (λ e. e.0) es
    names-cloned [] [] h = refl
    names-cloned [] (c ∷ copies) h = absurd h
    names-cloned (e ∷ es) [] h = absurd h
    names-cloned (e ∷ es) (c ∷ copies) h = λ i. same e.0 c.0 h.0.0 i ∷ names-cloned es copies h.1 i

    pub clones-rise : (es copies : List (Name × X)) → AllZip (λ x y. named x.0 y.0 × clones x.1 y.1) es copies → IsRising es → IsRising copies
    clones-rise es copies h rising = subst T (names-rise es ∙ ap names_rise (sym (names-cloned es copies h)) ∙ sym (names-rise copies)) rising

    pub clones-equal : ((x y : X) → clones x y → y ≡ x) → (es copies : List (Name × X)) → AllZip (λ x y. named x.0 y.0 × clones x.1 y.1) es copies → copies ≡ es
    clones-equal exact es copies h = same_from_all_zip _ es copies h (λ x y is i. (same x.0 y.0 is.0 i, exact x.1 y.1 is.1 i))

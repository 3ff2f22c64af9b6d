-- The entries of a map, put one after the other where none is.
use Rattle.std.proofs.Common.{◌≡◌, true, false, cond, T, List, [], ◌∷◌, Some, None, refl, sym, ap, subst, ◌∙◌}
use Rattle.std.specs.declared.cmp.Ordering.{Ordering}
use Rattle.std.specs.Ordering.{is_lt, is_eq, eq_by_cmp, ordering_reverse}
use Rattle.std.specs.Cmp.{IsTotalOrder}
use Rattle.std.specs.FinMap as map
use Rattle.std.specs.FinMap.{FinMap, IsAntisymmetric, find, is_sorted}
use Rattle.std.specs.FinMap.Entries.{below_all}
use Rattle.chart_model.proofs.Maps.{tied}
use Rattle.chart_model.proofs.Pages.{EachEntry, find-below, or_else, or_else-None}
use Rattle.chart_model.proofs.SortedEntries.{first, second, less}

apart : {K : Type 0} {R : K → K → Ordering} → IsTotalOrder R → (k q : K) → T (is_lt (R k q)) → eq_by_cmp R q k ≡ false
apart total k q low = ap is_eq (total.antisymm q k ∙ ap ordering_reverse (less _ low))

module _ {K X : Type 0} (R : K → K → Ordering) where
  -- entries put into a map
  abbrev pub put_entries : FinMap R X → List (K × X) → FinMap R X
  put_entries m [] = m
  put_entries m (e ∷ es) = put_entries (map.insert m e.0 e.1) es

  -- each entry is new under its key
  abbrev pub AreNew : FinMap R X → List (K × X) → Type 0
  AreNew m es = EachEntry R (λ k _. map.get m k ≡ None) es

  pub new-empty : (es : List (K × X)) → AreNew map.empty es
  new-empty [] = tt
  new-empty (e ∷ es) = (map.get-empty R e.0, new-empty es)

  module _ (total : IsTotalOrder R) where
    -- those behind the first are new after it as before
    pub new-after : (m : FinMap R X) (k : K) (v : X) (es : List (K × X)) → T (below_all R k es) → AreNew m es → AreNew (map.insert m k v) es
    new-after m k v [] below new = tt
    new-after m k v (e ∷ es) below new = (
      map.get-insert total m k v e.0
          ∙ ap (λ b. cond b (Some v) (map.get m e.0)) (apart total k e.0 (first _ _ below))
          ∙ new.0,
      new-after m k v es (second _ _ below) new.1,
    )

    module _ (same : IsAntisymmetric R) where
      get-put_entries : (es : List (K × X)) (m : FinMap R X) (q : K) → T (is_sorted R es) → map.get (put_entries m es) q ≡ or_else (find R q es) (map.get m q)
      get-put_entries [] m q sorted = refl
      get-put_entries (e ∷ es) m q sorted =
          get-put_entries es (map.insert m e.0 e.1) q (second _ _ sorted)
          ∙ ap (or_else (find R q es)) (map.get-insert total m e.0 e.1 q)
          ∙ elim (eq_by_cmp R q e.0) as (λ b. eq_by_cmp R q e.0 ≡ b → or_else (find R q es) (cond b (Some e.1) (map.get m q)) ≡ or_else (cond b (Some e.1) (find R q es)) (map.get m q)) [
            | true ↦ λ t. ap (λ o. or_else o (Some e.1)) (subst (λ k. find R k es ≡ None) (sym (same q e.0 (tied _ t))) (find-below R e.0 es (first _ _ sorted)))
            | false ↦ λ t. refl
          ] refl

      -- they are the map again
      pub put_entries-all : (m : FinMap R X) → put_entries map.empty (map.entries m) ≡ m
      put_entries-all m =
          map.same_map total same _ _ (λ q.
          get-put_entries (map.entries m) map.empty q (map.entries_sorted m)
          ∙ ap (or_else (find R q (map.entries m))) (map.get-empty R q)
          ∙ or_else-None (find R q (map.entries m))
          ∙ sym (map.get-entries m q))

-- The entries of finite maps are those that are found by their keys.
use Rattle.std.proofs.Common.{◌≡◌, inl, inr, Bool, true, false, cond, T, List, [], ◌∷◌, Option, Some, None, refl, sym, ap, ◌∙◌}
use Rattle.std.specs.declared.cmp.Ordering.{Ordering}
use Rattle.std.specs.declared.cmp.Ordering.TheVariants.{Less, Greater}
use Rattle.std.specs.Ordering.{is_eq, eq_by_cmp, ordering_reverse}
use Rattle.std.specs.Cmp.{IsTotalOrder, tied_itself}
use Rattle.std.specs.FinMap as map
use Rattle.std.specs.FinMap.{FinMap, IsAntisymmetric, find, is_sorted}
use Rattle.std.specs.FinMap.Entries.{below_all}
use Rattle.common_lemmas.proofs.Choices.{some_is}
use Rattle.common_lemmas.proofs.Members.{Has, IsBefore, Rises, before_each}
use Rattle.chart_model.proofs.Maps.{tied}
use Rattle.chart_model.proofs.SortedEntries.{first, second, less}

module _ {K X : Type 0} {R : K → K → Ordering} (total : IsTotalOrder R) (exact : IsAntisymmetric R) where
  abbrev Precedes : K × X → K × X → Type 0
  Precedes e f = R e.0 f.0 ≡ Less

  below : (e : K × X) (es : List (K × X)) → T (below_all R e.0 es) → IsBefore Precedes e es
  below e [] h = tt
  below e (f ∷ fs) h = (less _ (first _ _ h), below e fs (second _ _ h))

  rising : (es : List (K × X)) → T (is_sorted R es) → Rises Precedes es
  rising [] h = tt
  rising (e ∷ es) h = (below e es (first _ _ h), rising es (second _ _ h))

  found_there : (k : K) (v : X) (es : List (K × X)) → find R k es ≡ Some v → Has (k, v) es
  found_there k v [] e = absurd (let no : ◌≡◌ {A = Option X} None (Some v) = e in cc)
  found_there k v (f ∷ fs) e = by (eq_by_cmp R k f.0) refl e (found_there k v fs)
    where
      by : (b : Bool) → eq_by_cmp R k f.0 ≡ b → cond b (Some f.1) (find R k fs) ≡ Some v → (find R k fs ≡ Some v → Has (k, v) fs) → Has (k, v) (f ∷ fs)
      by true is found later =
          let key : k ≡ f.0 = exact k f.0 (tied (R k f.0) is) in
          let value : f.1 ≡ v = some_is f.1 v found in
          inl (λ i. (sym key i, value i))
      by false is found later = inr (later found)

  there_found : (k : K) (v : X) (es : List (K × X)) → Rises Precedes es → Has (k, v) es → find R k es ≡ Some v
  there_found k v [] rises h = absurd h
  there_found k v (f ∷ fs) rises (inl e) =
      ap (λ (g : K × X). cond (eq_by_cmp R k g.0) (Some g.1) (find R k fs)) e
      ∙ ap (λ (o : Ordering). cond (is_eq o) (Some v) (find R k fs)) (tied_itself total k)
  there_found k v (f ∷ fs) rises (inr h) =
      let above : R k f.0 ≡ Greater = total.antisymm k f.0 ∙ ap ordering_reverse (before_each Precedes f fs (k, v) rises.0 h) in
      ap (λ (o : Ordering). cond (is_eq o) (Some f.1) (find R k fs)) above ∙ there_found k v fs rises.1 h

  pub entry_held : (m : FinMap R X) (k : K) (v : X) → Has (k, v) (map.entries m) → map.get m k ≡ Some v
  entry_held m k v h = map.get-entries m k ∙ there_found k v (map.entries m) (rising (map.entries m) (map.entries_sorted m)) h

  pub held_entry : (m : FinMap R X) (k : K) (v : X) → map.get m k ≡ Some v → Has (k, v) (map.entries m)
  held_entry m k v e = found_there k v (map.entries m) (sym (map.get-entries m k) ∙ e)

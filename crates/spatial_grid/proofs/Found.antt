-- Entries in the order of their keys, found by them.
use Rattle.std.proofs.Common.{◌≡◌, ◌⊎◌, inl, inr, Bool, true, false, cond, T, List, [], ◌∷◌, Option, Some, None, refl, sym, ap, ◌∙◌, subst}
use Rattle.std.specs.declared.cmp.Ordering.{Ordering}
use Rattle.std.specs.declared.cmp.Ordering.TheVariants.{Less, Greater}
use Rattle.std.specs.Ordering.{is_eq, eq_by_cmp, ordering_reverse}
use Rattle.std.specs.Cmp.{IsTotalOrder, tied_itself}
use Rattle.std.specs.FinMap.{IsAntisymmetric, find, is_sorted}
use Rattle.std.specs.FinMap.Entries.{below_all}
use Rattle.common_lemmas.proofs.Choices.{some_is}
use Rattle.common_lemmas.proofs.Members.{Has}
use Rattle.chart_model.proofs.Maps.{tied}
use Rattle.chart_model.proofs.SortedEntries.{first, second, less}

module _ {K X : Type 0} {R : K → K → Ordering} (total : IsTotalOrder R) (exact : IsAntisymmetric R) where
  pub found_there : (k : K) (v : X) (es : List (K × X)) → find R k es ≡ Some v → Has (k, v) es
  found_there k v [] e = absurd (let no : ◌≡◌ {A = Option X} None (Some v) = e in cc)
  found_there k v (f ∷ fs) e = by (eq_by_cmp R k f.0) refl e (found_there k v fs)
    where
      by : (b : Bool) → eq_by_cmp R k f.0 ≡ b → cond b (Some f.1) (find R k fs) ≡ Some v → (find R k fs ≡ Some v → Has (k, v) fs) → Has (k, v) (f ∷ fs)
      by true is found later =
          let key : k ≡ f.0 = exact k f.0 (tied (R k f.0) is) in
          let value : f.1 ≡ v = some_is f.1 v found in
          inl (λ i. (sym key i, value i))
      by false is found later = inr (later found)

  behind : (k : K) (v : X) (j : K) (es : List (K × X)) → T (below_all R j es) → Has (k, v) es → R j k ≡ Less
  behind k v j [] below h = absurd h
  behind k v j (f ∷ fs) below (inl e) = subst (λ (g : K × X). R j g.0 ≡ Less) e (less _ (first _ _ below))
  behind k v j (f ∷ fs) below (inr h) = behind k v j fs (second _ _ below) h

  pub there_found : (k : K) (v : X) (es : List (K × X)) → T (is_sorted R es) → Has (k, v) es → find R k es ≡ Some v
  there_found k v [] sorted h = absurd h
  there_found k v (f ∷ fs) sorted (inl e) =
      ap (λ (g : K × X). cond (eq_by_cmp R k g.0) (Some g.1) (find R k fs)) e
      ∙ ap (λ (o : Ordering). cond (is_eq o) (Some v) (find R k fs)) (tied_itself total k)
  there_found k v (f ∷ fs) sorted (inr h) =
      let above : R k f.0 ≡ Greater = total.antisymm k f.0 ∙ ap ordering_reverse (behind k v f.0 fs (first _ _ sorted) h) in
      ap (λ (o : Ordering). cond (is_eq o) (Some f.1) (find R k fs)) above ∙ there_found k v fs (second _ _ sorted) h

-- What a walk has left after each step.
use Rattle.std.proofs.Common.{◌≡◌, ◌≢◌, ℕ, ◌+◌, ◌<◌, Bool, true, false, T, ◌&&◌, not, nat_eq, rules, List, [], ◌∷◌, length, drop, get_or, drop-cons, add-one, refl, sym, ap, subst, ◌∙◌}
use Rattle.std.specs.declared.cmp.Ordering.{Ordering}
use Rattle.std.specs.declared.cmp.Ordering.TheVariants.{Less, Equal, Greater}
use Rattle.std.specs.Ordering.{is_lt, is_eq, eq_by_cmp}
use Rattle.std.specs.Cmp.{IsTotalOrder, eq_by_cmp_equiv}
use Rattle.std.specs.Cmp.Rules.{comparing}
use Rattle.std.specs.Cmp.Lexicographic.{pointwise}
use Rattle.std.specs.FinMap.{is_sorted}
use Rattle.std.specs.FinMap.Entries.{below_all}
use Rattle.chart_model.proofs.SortedEntries.{first, second, less}
use Rattle.panel_port.specs.PanelKey.{panel_key_cmp}
use Rattle.panel_port.proofs.PanelKeys.{panel_key_cmp-total, panel_key_cmp-IsAntisymmetric}
use Rattle.chart_model.specs.declared.drawing.Block.{Block}
use Rattle.chart_model.specs.declared.drawing.PanelKey.{PanelKey}
use Rattle.scene_sync.specs.Walk.{IsLeast}

below-both : (a b : Bool) → T a → T b → T (a && b)
below-both true b p q = q
below-both false b p q = p

-- a key below the first is below all
below-first : {K X : Type 0} {R : K → K → Ordering} → IsTotalOrder R → (k j : K) (es : List (K × X)) → R k j ≡ Less → T (below_all R j es) → T (below_all R k es)
below-first total k j [] lower below = tt
below-first total k j (e ∷ es) lower below =
    below-both _ _
    (subst (λ o. T (is_lt o)) (sym (total.trans k j e.0 lower (less _ (first _ _ below)))) tt)
    (below-first total k j es lower (second _ _ below))

lower-one : (o : Ordering) → (o ≢ Greater) → is_eq o ≡ false → o ≡ Less
lower-one Less least apart = refl
lower-one Equal least apart = cc
lower-one Greater least apart = absurd (least refl)

-- a key that isn't above the first, and isn't the first, is below all
pub below-apart : (key : PanelKey) (e : PanelKey × Block) (es : List (PanelKey × Block)) → T (is_sorted panel_key_cmp (e ∷ es))
    → (panel_key_cmp key e.0 ≢ Greater) → eq_by_cmp panel_key_cmp key e.0 ≡ false → T (below_all panel_key_cmp key (e ∷ es))
below-apart key e es sorted least apart =
    let lower = lower-one (panel_key_cmp key e.0) least apart in
    below-both _ _
    (subst (λ o. T (is_lt o)) (sym lower) tt)
    (below-first panel_key_cmp-total key e.0 es lower (first _ _ sorted))

keys-tie : (x y : PanelKey)
    → (pointwise nat_eq x.key y.key && (nat_eq x.name.rcnm y.name.rcnm && nat_eq x.name.rcid y.name.rcid)) ≡ eq_by_cmp panel_key_cmp x y
keys-tie x y = search (comparing, rules)

turned : (b : Bool) → true ≡ not b → b ≡ false
turned true e = cc
turned false e = refl

-- keys that a test tells apart don't tie
pub told-apart : (key at : PanelKey)
    → true ≡ not (pointwise nat_eq at.key key.key && (nat_eq at.name.rcnm key.name.rcnm && nat_eq at.name.rcid key.name.rcid))
    → eq_by_cmp panel_key_cmp key at ≡ false
told-apart key at differ =
    (eq_by_cmp_equiv panel_key_cmp-total).symm key at ∙ sym (keys-tie at key)
    ∙ turned (pointwise nat_eq at.key key.key && (nat_eq at.name.rcnm key.name.rcnm && nat_eq at.name.rcid key.name.rcid)) differ

alike : (o : Ordering) → false ≡ not (is_eq o) → o ≡ Equal
alike Less e = cc
alike Equal e = refl
alike Greater e = cc

-- and keys that it doesn't are equal
pub told-alike : (key at : PanelKey)
    → false ≡ not (pointwise nat_eq at.key key.key && (nat_eq at.name.rcnm key.name.rcnm && nat_eq at.name.rcid key.name.rcid))
    → at ≡ key
told-alike key at same =
    panel_key_cmp-IsAntisymmetric at key (alike (panel_key_cmp at key) (same ∙ ap not (keys-tie at key)))

-- the entry at the place is the first of those that are left
pub first-left : (all : List (PanelKey × Block)) (place : ℕ) (e : PanelKey × Block) → place < length all → e ≡ get_or all place e
    → drop place all ≡ e ∷ drop (place + 1) all
first-left all place e below at = drop-cons all place e below ∙ (λ i. sym at i ∷ drop (sym (add-one place) i) all)

module _ (key : PanelKey) (all : List (PanelKey × Block)) (place : ℕ) (e : PanelKey × Block) (below : place < length all) (at : e ≡ get_or all place e) (rising : T (is_sorted panel_key_cmp (drop place all))) where
  rises : T (is_sorted panel_key_cmp (e ∷ drop (place + 1) all))
  rises = subst (λ es. T (is_sorted panel_key_cmp es)) (first-left all place e below at) rising

  -- a key that isn't that of the first entry is below all
  pub below-left : IsLeast key (drop place all) → eq_by_cmp panel_key_cmp key e.0 ≡ false → T (below_all panel_key_cmp key (drop place all))
  below-left least apart =
      subst (λ es. T (below_all panel_key_cmp key es)) (sym (first-left all place e below at))
      (below-apart key e (drop (place + 1) all) rises (subst (IsLeast key) (first-left all place e below at) least) apart)

  -- behind the first entry all are above its key
  pub below-passed : e.0 ≡ key → T (below_all panel_key_cmp key (drop (place + 1) all))
  below-passed same = subst (λ k. T (below_all panel_key_cmp k (drop (place + 1) all))) same (first _ _ rises)

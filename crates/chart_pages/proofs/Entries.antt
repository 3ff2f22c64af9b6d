-- What holds of each entry of a map, by its list and by its keys.
use Rattle.std.proofs.Common.{◌≡◌, true, false, cond, List, [], ◌∷◌, Option, Some, IfSome, refl, sym, subst}
use Rattle.std.specs.declared.cmp.Ordering.{Ordering}
use Rattle.std.specs.Cmp.{IsTotalOrder}
use Rattle.std.specs.List.{AllByRecursion}
use Rattle.std.specs.Ordering.{eq_by_cmp}
use Rattle.std.specs.FinMap as map
use Rattle.std.specs.FinMap.{FinMap, IsAntisymmetric, find}
use Rattle.chart_model.proofs.Maps.{Each, tied}
use Rattle.chart_model.proofs.Pages.{EachEntry, each-of-map}
use Rattle.page_parts.specs.Lists.{AreInRange}

module _ {K X : Type 0} {R : K → K → Ordering} (total : IsTotalOrder R) (same : IsAntisymmetric R) (P : K → X → Type 0) where
  abbrev Of : K × X → Type 0
  Of e = P e.0 e.1

  listed : (es : List (K × X)) → EachEntry R P es → AllByRecursion Of es
  listed [] each = tt
  listed (e ∷ es) each = (each.0, listed es each.1)

  pub all_of_each : (m : FinMap R X) → Each P m → AllByRecursion (λ e. P e.0 e.1) (map.entries m)
  all_of_each m each = listed (map.entries m) (each-of-map R total same P m each)

  found_of_all : (es : List (K × X)) (q : K) → AllByRecursion Of es → IfSome (find R q es) (P q)
  found_of_all [] q all = tt
  found_of_all (e ∷ es) q all =
      elim (eq_by_cmp R q e.0) as (λ b. eq_by_cmp R q e.0 ≡ b → IfSome (cond b (Some e.1) (find R q es)) (P q)) [
        | true ↦ λ t. subst (λ (k : K). P k e.1) (sym (same q e.0 (tied (R q e.0) t))) all.0
        | false ↦ λ t. found_of_all es q all.1
      ] refl

  pub each_of_all : (m : FinMap R X) → AllByRecursion (λ e. P e.0 e.1) (map.entries m) → Each P m
  each_of_all m all q = subst (λ (o : Option X). IfSome o (P q)) (sym (map.get-entries m q)) (found_of_all (map.entries m) q all)

-- ---- two facts of each

module _ {X : Type 0} (Both One Other : X → Type 0) (one : (x : X) → Both x → One x) (other : (x : X) → Both x → Other x) (both : (x : X) → One x → Other x → Both x) where
  all_one : (xs : List X) → AllByRecursion Both xs → AllByRecursion One xs
  all_one [] all = tt
  all_one (x ∷ xs) all = (one x all.0, all_one xs all.1)

  all_other : (xs : List X) → AllByRecursion Both xs → AllByRecursion Other xs
  all_other [] all = tt
  all_other (x ∷ xs) all = (other x all.0, all_other xs all.1)

  all_both : (xs : List X) → AllByRecursion One xs → AllByRecursion Other xs → AllByRecursion Both xs
  all_both [] first second = tt
  all_both (x ∷ xs) first second = (both x first.0 second.0, all_both xs first.1 second.1)

  pub range_of : (xs : List X) → AreInRange Both xs → AreInRange One xs
  range_of xs h = record { count = h.count; each = all_one xs h.each }

  pub facts_of : (xs : List X) → AreInRange Both xs → AllByRecursion Other xs
  facts_of xs h = all_other xs h.each

  pub range_with : (xs : List X) → AreInRange One xs → AllByRecursion Other xs → AreInRange Both xs
  range_with xs h facts = record { count = h.count; each = all_both xs h.each facts }

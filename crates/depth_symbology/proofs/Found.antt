-- Entries of a finite map, found by their keys.
use Rattle.std.proofs.Common.{◌≡◌, Bool, true, false, cond, ◌&&◌, ◌||◌, T, List, [], ◌∷◌, map, Option, Some, filter, refl, ap, ◌∙◌}
use Rattle.std.specs.declared.cmp.Ordering.{Ordering}
use Rattle.std.specs.declared.cmp.Ordering.TheVariants.{Less}
use Rattle.std.specs.Ordering.{is_eq, ordering_reverse}
use Rattle.std.specs.Cmp.{IsTotalOrder, tied_itself}
use Rattle.std.specs.List.{list_any}
use Rattle.std.specs.FinMap as finite
use Rattle.std.specs.FinMap.{FinMap, find, is_sorted}
use Rattle.std.specs.FinMap.Entries.{below_all}
use Rattle.chart_model.proofs.SortedEntries.{first, second, less}

test_one : (b t : Bool) (rest others : Bool) → rest ≡ others → cond b (t || rest) rest ≡ ((t && b) || others)
test_one true true rest others e = refl
test_one true false rest others e = e
test_one false true rest others e = e
test_one false false rest others e = e

module _ {K X : Type 0} {R : K → K → Ordering} (total : IsTotalOrder R) where
  -- each entry is what is found of its key
  abbrev AreFound : List (K × X) → List (K × X) → Type 0
  AreFound all [] = Unit {0}
  AreFound all (e ∷ es) = (find R e.0 all ≡ Some e.1) × AreFound all es

  passed : (x : K × X) (k : K) (all : List (K × X)) → R x.0 k ≡ Less → find R k (x ∷ all) ≡ find R k all
  passed x k all below =
      ap (λ r. cond (is_eq r) (Some x.1) (find R k all)) (total.antisymm k x.0 ∙ ap ordering_reverse below)

  found_behind : (x : K × X) (all es : List (K × X)) → T (below_all R x.0 es) → AreFound all es → AreFound (x ∷ all) es
  found_behind x all [] below found = tt
  found_behind x all (e ∷ es) below found =
      (passed x e.0 all (less _ (first _ _ below)) ∙ found.0, found_behind x all es (second _ _ below) found.1)

  found_each : (es : List (K × X)) → T (is_sorted R es) → AreFound es es
  found_each [] sorted = tt
  found_each (x ∷ es) sorted = (
    ap (λ r. cond (is_eq r) (Some x.1) (find R x.0 es)) (tied_itself total x.0),
    found_behind x es es (first _ _ sorted) (found_each es (second _ _ sorted)),
  )

  test_all : (m : FinMap R X) (test : Option X → Bool) (among : K × X → Bool) (es : List (K × X)) → AreFound (finite.entries m) es
      → list_any (λ (k : K). test (finite.get m k)) (map (λ (e : K × X). e.0) (filter among es))
      ≡ list_any (λ (e : K × X). test (Some e.1) && among e) es
  test_all m test among [] found = refl
  test_all m test among (e ∷ es) found =
      let rest = test_all m test among es found.1 in
      let here : finite.get m e.0 ≡ Some e.1 = finite.get-entries m e.0 ∙ found.0 in
      keeps (among e)
      ∙ ap (λ (t : Bool). cond (among e) (t || list_any (λ (k : K). test (finite.get m k)) (map (λ (p : K × X). p.0) (filter among es))) (list_any (λ (k : K). test (finite.get m k)) (map (λ (p : K × X). p.0) (filter among es)))) (ap test here)
      ∙ test_one (among e) (test (Some e.1)) _ _ rest
    where
      keeps : (b : Bool)
          → list_any (λ (k : K). test (finite.get m k)) (map (λ (p : K × X). p.0) (cond b (e ∷ filter among es) (filter among es)))
          ≡ cond b (test (finite.get m e.0) || list_any (λ (k : K). test (finite.get m k)) (map (λ (p : K × X). p.0) (filter among es))) (list_any (λ (k : K). test (finite.get m k)) (map (λ (p : K × X). p.0) (filter among es)))
      keeps true = refl
      keeps false = refl

  -- a test of what is found of the keys of some entries tests those entries
  pub any_found : (m : FinMap R X) (test : Option X → Bool) (among : K × X → Bool)
      → list_any (λ (k : K). test (finite.get m k)) (map (λ (e : K × X). e.0) (filter among (finite.entries m)))
      ≡ list_any (λ (e : K × X). test (Some e.1) && among e) (finite.entries m)
  any_found m test among = test_all m test among (finite.entries m) (found_each (finite.entries m) (finite.entries_sorted m))

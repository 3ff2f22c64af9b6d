-- Names in order, each once, and those of them that pass a test.
use Rattle.std.proofs.Common.{◌≡◌, ◌≢◌, ◌⊎◌, inl, inr, ⊎_elim, zero, suc, arith, Bool, true, false, ◌||◌, cond, List, [], ◌∷◌, ◌++◌, Option, Some, None, Result, Ok, Err, IfOk, refl, sym, ap, subst, ◌∙◌, rules}
use Rattle.std.specs.Prelude.{◌↔◌}
use Rattle.std.specs.Option.{is_some, is_none}
use Rattle.std.specs.FinMap as map
use Rattle.std.specs.List.{Contains, filter}
use Rattle.std.specs.List.Sorted.{IsSorted, IsStrictlySortedBy, IsPermutation}
use Rattle.std.specs.List.Retain.{IsFiltered, DiffersFromLast}
use Rattle.std.specs.Ordering.{eq_by_cmp}
use Rattle.std.specs.Cmp.{IsEquivalence, IsTotalOrder}
use Rattle.std.specs.Cmp.Rules.{comparing}
use Rattle.std.proofs.lemmas.List.Elements.{All-contains, filter_passes, Contains-append_left, Contains-append_right, Contains-append_cases}
use Rattle.std.proofs.lemmas.List.Folds.{Any-from_list_any, list_any-from_Any}
use Rattle.std.proofs.lemmas.List.{append-nil}
use Rattle.std.proofs.lemmas.List.Filters.{dedup_is}
use Rattle.std.proofs.lemmas.List.Kept.{Contains-dedup, Contains-from_dedup, IsStrictlySortedBy-dedup, IsStrictlySortedBy-filter}
use Rattle.std.proofs.lemmas.List.Sorted.{Contains-permutation, IsPermutation-sym}
use Rattle.chart_model.specs.Cell.{CellValue}
use Rattle.chart_model.specs.Names.{name_cmp}
use Rattle.chart_model.specs.declared.name.Name.{Name}
use Rattle.chart_difference.specs.Difference.{AreChanged, Differ, HasAll, names_in, vector_in, feature_in}
use Rattle.chart_difference.specs.Same.{same_name, differ}
use Rattle.chart_difference.proofs.Decided.{differs, names}

same_name-IsEquivalence : IsEquivalence same_name
same_name-IsEquivalence = search (comparing, rules)

name_cmp-total : IsTotalOrder name_cmp
name_cmp-total = search (comparing, rules)

ties : (x y : Name) → same_name x y ≡ eq_by_cmp name_cmp x y
ties x y = search (comparing, rules)

module _ {X : Type 0} where
  stays : (b : Bool) (y x : X) (us : List X) → Contains us x → Contains (cond b (y ∷ us) us) x
  stays true y x us there = Contains-append_right (y ∷ []) us x there
  stays false y x us there = there

  first : (b : Bool) (x : X) (us : List X) → b ≡ true → Contains (cond b (x ∷ us) us) x
  first true x us e = (0, omega arith, refl)
  first false x us e = cc

  alone : (y x : X) → Contains (y ∷ []) x → y ≡ x
  alone y x (zero, below, at) = at
  alone y x (suc k, below, at) = absurd (omega arith)

  -- an element that passes the test stays
  Contains-filter : (p : X → Bool) (xs : List X) (x : X) → Contains xs x → p x ≡ true → Contains (filter p xs) x
  Contains-filter p [] x there passes = absurd (let below = there.1 in omega arith)
  Contains-filter p (y ∷ ys) x there passes =
      ⊎_elim
      (λ here. subst (λ z. p z ≡ true → Contains (cond (p z) (z ∷ filter p ys) (filter p ys)) x) (sym (alone y x here)) (first (p x) x (filter p ys))
      (ap p (alone y x here) ∙ passes))
      (λ later. stays (p y) y x (filter p ys) (Contains-filter p ys x later passes))
      (Contains-append_cases (y ∷ []) ys x there)

  one-of : (o p : Option X) → o ≢ p → (is_some o ≡ true) ⊎ (is_some p ≡ true)
  one-of (Some x) p apart = inl refl
  one-of None (Some y) apart = inr refl
  one-of None None apart = absurd (apart refl)

  has-key : (m : map.FinMap name_cmp X) (name : Name) → is_some (map.get m name) ≡ true → Contains (map.keys m) name
  has-key m name there =
      let at = Any-from_list_any (eq_by_cmp name_cmp name) (map.keys m) (sym (map.contains_key-keys m name) ∙ there) in
      subst (Contains (map.keys m)) (sym ((names name at.1).0 (ties name at.1 ∙ at.4))) (at.0, at.2, at.3)

some-vector : (chart : Option CellValue) (name : Name) → is_some (vector_in chart name) ≡ true → Contains (names_in chart) name
some-vector None name there = cc
some-vector (Some cell) name there = Contains-append_right (map.keys cell.features) (map.keys cell.vectors) name (has-key cell.vectors name there)

some-feature : (chart : Option CellValue) (name : Name) → is_some (feature_in chart name) ≡ true → Contains (names_in chart) name
some-feature None name there = cc
some-feature (Some cell) name there = Contains-append_left (map.keys cell.features) (map.keys cell.vectors) name (has-key cell.features name there)

-- where records differ, one of the charts has one
pub all-names : (old new : Option CellValue) → HasAll old new (names_in old ++ names_in new)
all-names old new name apart =
    let in-old = Contains-append_left (names_in old) (names_in new) name in
    let in-new = Contains-append_right (names_in old) (names_in new) name in
    ⊎_elim
    (λ v. ⊎_elim (λ s. in-old (some-vector old name s)) (λ s. in-new (some-vector new name s)) (one-of (vector_in old name) (vector_in new name) v))
    (λ f. ⊎_elim (λ s. in-old (some-feature old name s)) (λ s. in-new (some-feature new name s)) (one-of (feature_in old name) (feature_in new name) f))
    apart

-- where there is no other chart, each record of the one differs
key-has : {X : Type 0} (m : map.FinMap name_cmp X) (name : Name) → Contains (map.keys m) name → is_some (map.get m name) ≡ true
key-has m name there =
    map.contains_key-keys m name
    ∙ list_any-from_Any (eq_by_cmp name_cmp name) (map.keys m)
    (there.0, name, there.1, there.2, sym (ties name name) ∙ (names name name).1 refl)

some-differs : {X : Type 0} (o : Option X) → is_some o ≡ true → o ≢ None
some-differs (Some x) there = λ none. cc
some-differs None there = cc

in-chart : (chart : Option CellValue) (name : Name) → Contains (names_in chart) name
    → (is_some (vector_in chart name) ≡ true) ⊎ (is_some (feature_in chart name) ≡ true)
in-chart None name there = absurd (let below = there.1 in omega arith)
in-chart (Some cell) name there =
    ⊎_elim
    (λ feature. inr (key-has cell.features name feature))
    (λ vector. inl (key-has cell.vectors name vector))
    (Contains-append_cases (map.keys cell.features) (map.keys cell.vectors) name there)

alone-differs : (chart : Option CellValue) (name : Name) → Contains (names_in chart) name
    → Differ chart None name × Differ None chart name
alone-differs chart name there =
    ⊎_elim
    (λ v. (inl (some-differs (vector_in chart name) v), inl (λ none. some-differs (vector_in chart name) v (sym none))))
    (λ f. (inr (some-differs (feature_in chart name) f), inr (λ none. some-differs (feature_in chart name) f (sym none))))
    (in-chart chart name there)

all-alone : (old new : Option CellValue) → (is_none old || is_none new) ≡ true → (name : Name)
    → Contains (names_in old ++ names_in new) name → Differ old new name
all-alone None new alone name there = (alone-differs new name there).1
all-alone (Some old) None alone name there =
    (alone-differs (Some old) name (subst (λ (l : List Name). Contains l name) (append-nil (names_in (Some old))) there)).0
all-alone (Some old) (Some new) alone name there = absurd cc

-- so the names of the one chart, in order and each once, are those whose records differ
pub alone-changed : (old new : Option CellValue) (names once : List Name) → (is_none old || is_none new) ≡ true
    → names ≡ names_in old ++ names_in new → IsStrictlySortedBy name_cmp once
    → ((name : Name) → Contains once name ↔ Contains names name) → AreChanged old new once
alone-changed old new names once alone is rising same = record {
  rising = rising;
  exact = λ name. (
    λ there. all-alone old new alone name (subst (λ (l : List Name). Contains l name) is ((same name).0 there)),
    λ differ. (same name).1 (subst (λ (l : List Name). Contains l name) (sym is) (all-names old new name differ)),
  );
}

-- names in order, of which those that stand twice are left out
pub sorted-once : (sorted once : List Name) → IsSorted name_cmp sorted
    → IsFiltered (DiffersFromLast same_name) [] sorted once → IsStrictlySortedBy name_cmp once
sorted-once sorted once rising filtered =
    subst (IsStrictlySortedBy name_cmp) (sym (dedup_is same_name sorted once filtered))
    (IsStrictlySortedBy-dedup name_cmp-total ties sorted rising)

pub same-once : (given sorted once : List Name) → IsPermutation given sorted
    → IsFiltered (DiffersFromLast same_name) [] sorted once → (name : Name) → Contains once name ↔ Contains given name
same-once given sorted once moved filtered name =
    let is = dedup_is same_name sorted once filtered in (
      λ there. Contains-permutation sorted given name (IsPermutation-sym given sorted moved)
          (Contains-from_dedup same_name sorted name (subst (λ (l : List Name). Contains l name) is there)),
      λ there. subst (λ (l : List Name). Contains l name) (sym is)
          (Contains-dedup same_name-IsEquivalence (λ x y. (names x y).0) sorted name
          (Contains-permutation given sorted name moved there)),
    )

-- of names in order, each once, those whose records differ
pub changed-among : (old new : Option CellValue) (given once : List Name) → HasAll old new given
    → IsStrictlySortedBy name_cmp once → ((name : Name) → Contains once name ↔ Contains given name)
    → AreChanged old new (filter (differ old new) once)
changed-among old new given once all rising same = record {
  rising = IsStrictlySortedBy-filter name_cmp (differ old new) once rising;
  exact = λ name. (
    λ there. (differs old new name).0
        (All-contains (λ x. differ old new x ≡ true) (filter (differ old new) once) name
        (filter_passes (differ old new) once) there),
    λ differ. Contains-filter _ once name ((same name).1 (all name differ)) ((differs old new name).1 differ),
  );
}

pub kept-are : {X E : Type 0} (P : X → Type 0) {x : X} (r : Result X E) → IfOk r (λ kept. kept ≡ x) → P x → IfOk r P
kept-are P (Ok y) is holds = subst P (sym is) holds
kept-are P (Err e) is holds = tt

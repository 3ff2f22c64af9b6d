-- Trees whose values stand behind shared pointers, as finite maps.
use Rattle.std.proofs.Common.{◌≡◌, ◌⊎◌, Bool, cond, true, false, List, [], ◌∷◌, Option, Some, None, Result, Ok, Err, OnErr, IsOk, is_ok, refl, ap, sym, ◌∙◌, subst, ⊎_elim}
use Rattle.std.specs.Option.{option_map}
use Rattle.std.specs.declared.cmp.Ordering.{Ordering}
use Rattle.std.specs.declared.rc.Rc.{Rc}
use Rattle.std.specs.Cmp.{IsTotalOrder}
use Rattle.std.specs.List.{AllZip}
use Rattle.std.specs.List.Sorted.{IsStrictlySortedBy}
use Rattle.std.specs.Map.{keys_of, lookup}
use Rattle.std.specs.BTreeMap.{is_at}
use Rattle.std.specs.FinMap as map
use Rattle.std.specs.FinMap.{FinMap, IsAntisymmetric}
use Rattle.chart_model.specs.Shared.{values_behind}
use Rattle.chart_model.proofs.Trees.{get-seen, insert-tree, remove-tree, entries-tree}

-- a fact that holds in any case
pub whenever : {X E P : Type 0} (r : Result X E) → P → OnErr r P
whenever (Ok x) p = tt
whenever (Err e) p = p

pub at-ok : {X E P : Type 0} (r : Result X E) (x : X) → r ≡ Ok x → (IsOk r → P) → P
at-ok r x is h = h (ap is_ok is)

pub at-err : {X E P : Type 0} (r : Result X E) (e : E) → r ≡ Err e → OnErr r P → P
at-err (Ok x) e is h = cc
at-err (Err f) e is h = h

-- a value, or a clone of it where clones are exact
pub same-value : {X : Type 0} (clones : X → X → Type 0) (x y : X) → ((a b : X) → clones a b → b ≡ a) → (y ≡ x) ⊎ clones x y → y ≡ x
same-value clones x y exact either = ⊎_elim (λ e. e) (λ c. exact x y c) either

module _ {X Z : Type 0} where
  -- what stands behind a pointer that may be there
  abbrev pub valued : Option (Rc X Z) → Option X
  valued o = option_map (λ r. r.value) o

  valued-cond : (b : Bool) (x y : Option (Rc X Z)) → valued (cond b x y) ≡ cond b (valued x) (valued y)
  valued-cond true x y = refl
  valued-cond false x y = refl

module _ {K X Z : Type 0} where
  lookup-values : (test : K → Bool) (es : List (K × Rc X Z)) → lookup test (values_behind es) ≡ valued (lookup test es)
  lookup-values test [] = refl
  lookup-values test (e ∷ es) =
      ap (cond (test e.0) (Some e.1.value)) (lookup-values test es)
      ∙ sym (valued-cond (test e.0) (Some e.1) (lookup test es))

  keys-values : (es : List (K × Rc X Z)) → keys_of (values_behind es) ≡ keys_of es
  keys-values [] = refl
  keys-values (e ∷ es) = ap (λ ks. e.0 ∷ ks) (keys-values es)

  -- copies of the pointers hold what these hold
  pub values-clones : (es copies : List (K × Rc X Z))
      → AllZip (λ p q. (q.0 ≡ p.0) × (q.1.value ≡ p.1.value)) es copies
      → values_behind copies ≡ values_behind es
  values-clones [] [] h = refl
  values-clones [] (c ∷ copies) h = absurd h
  values-clones (e ∷ es) [] h = absurd h
  values-clones (e ∷ es) (c ∷ copies) h = λ i. (h.0.0 i, h.0.1 i) ∷ values-clones es copies h.1 i

  module _ {R : K → K → Ordering} (total : IsTotalOrder R) where
    pub get-values : (es : List (K × Rc X Z)) (m : FinMap R X) (k : K) → map.from_entries (values_behind es) ≡ m
        → valued (lookup (is_at (R k)) es) ≡ map.get m k
    get-values es m k seen = sym (lookup-values (is_at (R k)) es) ∙ get-seen total (values_behind es) m k seen

    pub entries-values : (es : List (K × Rc X Z)) (m : FinMap R X) → IsStrictlySortedBy R (keys_of es)
        → map.from_entries (values_behind es) ≡ m → values_behind es ≡ map.entries m
    entries-values es m sorted seen =
        sym (entries-tree total (values_behind es) (subst (IsStrictlySortedBy R) (sym (keys-values es)) sorted))
        ∙ ap map.entries seen

    module _ (same : IsAntisymmetric R) (old new : List (K × Rc X Z)) (k : K) where
      pub insert-values : (r : Rc X Z)
          → ((q : K) → lookup (is_at (R q)) new ≡ cond (is_at (R k) q) (Some r) (lookup (is_at (R q)) old))
          → map.from_entries {R = R} (values_behind new) ≡ map.insert (map.from_entries (values_behind old)) k r.value
      insert-values r is =
          insert-tree total same (values_behind old) (values_behind new) k r.value (λ q.
          lookup-values (is_at (R q)) new
          ∙ ap valued (is q)
          ∙ valued-cond (is_at (R k) q) (Some r) (lookup (is_at (R q)) old)
          ∙ ap (cond (is_at (R k) q) (Some r.value)) (sym (lookup-values (is_at (R q)) old)))

      pub remove-values : ((q : K) → lookup (is_at (R q)) new ≡ cond (is_at (R k) q) None (lookup (is_at (R q)) old))
          → map.from_entries {R = R} (values_behind new) ≡ map.remove (map.from_entries (values_behind old)) k
      remove-values is =
          remove-tree total same (values_behind old) (values_behind new) k (λ q.
          lookup-values (is_at (R q)) new
          ∙ ap valued (is q)
          ∙ valued-cond (is_at (R k) q) None (lookup (is_at (R q)) old)
          ∙ ap (cond (is_at (R k) q) None) (sym (lookup-values (is_at (R q)) old)))

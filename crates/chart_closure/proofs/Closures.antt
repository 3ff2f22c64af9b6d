-- The first fault of a chart is that of the least name with one.
use Rattle.std.proofs.Common.{◌≡◌, ◌≢◌, ◌↔◌, [], ◌∷◌, map, Option, Some, None, Result, Ok, Err, is_some, IsSome, IsNone, IfSome, IsOk, IfErr, refl, sym, ap, ◌∙◌, inl, inr}
use Rattle.std.specs.Option.{option_or}
use Rattle.std.specs.Result.{result_err}
use Rattle.std.specs.FinMap as finite
use Rattle.std.specs.declared.cmp.Ordering.TheVariants.{Less, Greater}
use Rattle.std.proofs.lemmas.Bool.{false≢true}
use Rattle.std.proofs.lemmas.Option.{none-some}
use Rattle.chart_model.specs.declared.name.Name.{Name}
use Rattle.chart_model.specs.Cell.{CellValue, IsCell}
use Rattle.chart_model.specs.Record.{IsVectorName, IsFeatureName}
use Rattle.chart_model.specs.Names.{name_cmp}
use Rattle.chart_closure.specs.declared.fault.ClosureFault.{ClosureFault}
use Rattle.chart_model.specs.Answers.{first_of}
use Rattle.chart_closure.specs.Closed.{vector_fault, feature_fault, fault_at, IsClosed, IsLeastFault, closure_fault}
use Rattle.chart_closure.proofs.Least.{first_of-append, fault_in, first_fault, no_fault, IsLeastOf, least_fault, found_of}

-- the fault of a name, in the two lists of records
abbrev feature_at : CellValue → Name → Option ClosureFault
feature_at cell q = fault_in (feature_fault cell) (finite.entries cell.features) q

abbrev vector_at : CellValue → Name → Option ClosureFault
vector_at cell q = fault_in (vector_fault cell) (finite.entries cell.vectors) q

at_name : (cell : CellValue) (q : Name) → fault_at cell q ≡ first_of (feature_at cell q ∷ vector_at cell q ∷ [])
unfolding fault_at
at_name cell q = rw (finite.get-entries cell.features q, finite.get-entries cell.vectors q) refl

-- features first, then vector records
pub closure_split : (cell : CellValue) → closure_fault cell ≡ option_or (first_fault (feature_fault cell) (finite.entries cell.features)) (first_fault (vector_fault cell) (finite.entries cell.vectors))
unfolding closure_fault
closure_split cell = first_of-append (map (λ e. feature_fault cell e.0 e.1) (finite.entries cell.features)) (map (λ e. vector_fault cell e.0 e.1) (finite.entries cell.vectors))

neither : (a b : Option ClosureFault) → option_or a b ≡ None → (a ≡ None) × (b ≡ None)
neither None b e = (refl, e)
neither (Some fault) b e = absurd (none-some fault (sym e))

pub closed : (cell : CellValue) → closure_fault cell ≡ None → IsClosed cell
closed cell e q =
    let p = neither (first_fault (feature_fault cell) (finite.entries cell.features)) (first_fault (vector_fault cell) (finite.entries cell.vectors)) (sym (closure_split cell) ∙ e) in
    let none = no_fault (feature_fault cell) (finite.entries cell.features) p.0 q in
    let no_more = no_fault (vector_fault cell) (finite.entries cell.vectors) p.1 q in
    let faultless : first_of (feature_at cell q ∷ vector_at cell q ∷ []) ≡ None = rw (none, no_more) refl in
    ap is_some (at_name cell q ∙ faultless)

-- what holds of a value that is there
held : {A : Type 0} {P : A → Type 0} {Q : Type 0} (o : Option A) → IfSome o P → IsSome o → ((x : A) → P x → Q) → Q
held None h some f = absurd (false≢true some)
held (Some x) h some f = f x h

-- a name under which a feature has a fault
feature_named : (cell : CellValue) (q : Name) → IsCell cell → IsSome (feature_at cell q) → IsFeatureName q
feature_named cell q kept h =
    held (finite.get cell.features q) (kept.features q) (ap is_some (finite.get-entries cell.features q) ∙ found_of (feature_fault cell) (finite.entries cell.features) q h) (λ feature is. is.named)

vector_named : (cell : CellValue) (q : Name) → IsCell cell → IsSome (vector_at cell q) → IsVectorName q
vector_named cell q kept h =
    held (finite.get cell.vectors q) (kept.vectors q) (ap is_some (finite.get-entries cell.vectors q) ∙ found_of (vector_fault cell) (finite.entries cell.vectors) q h) (λ vector is. is.named)

less_not_greater : Less ≡ Greater → ⊥
less_not_greater e = cc

features_first : (n m : Name) → IsFeatureName n → IsVectorName m → name_cmp n m ≢ Greater
features_first n m f (inl v) e = less_not_greater (rw (f, v) at e)
features_first n m f (inr (inl v)) e = less_not_greater (rw (f, v) at e)
features_first n m f (inr (inr v)) e = less_not_greater (rw (f, v) at e)

-- a fault of a name is one of a feature or of a vector record
either : {P : Type 0} (a b : Option ClosureFault) → IsSome (first_of (a ∷ b ∷ [])) → (IsSome a → P) → (IsSome b → P) → P
either None None h f g = absurd (false≢true h)
either None (Some fault) h f g = g refl
either (Some fault) b h f g = f refl

pub least : (cell : CellValue) (fault : ClosureFault) → IsCell cell → closure_fault cell ≡ Some fault → IsLeastFault cell fault
least cell fault kept e = go (first_fault (feature_fault cell) (finite.entries cell.features)) refl (sym (closure_split cell) ∙ e)
  where
    of_features : IsLeastOf (feature_fault cell) (finite.entries cell.features) fault → IsLeastFault cell fault
    of_features l = record {
      name = l.name;
      has = at_name cell l.name ∙ rw l.has refl;
      least = λ other h. either (feature_at cell other) (vector_at cell other) (sym (ap is_some (at_name cell other)) ∙ h)
          (λ some. l.least other some)
          (λ some. features_first l.name other (feature_named cell l.name kept (ap is_some l.has)) (vector_named cell other kept some));
    }

    of_vectors : ((q : Name) → feature_at cell q ≡ None) → IsLeastOf (vector_fault cell) (finite.entries cell.vectors) fault → IsLeastFault cell fault
    of_vectors none l = record {
      name = l.name;
      has = at_name cell l.name ∙ rw (none l.name, l.has) refl;
      least = λ other h. either (feature_at cell other) (vector_at cell other) (sym (ap is_some (at_name cell other)) ∙ h)
          (λ some. absurd (false≢true (sym (ap is_some (none other)) ∙ some)))
          (λ some. l.least other some);
    }

    go : (a : Option ClosureFault) → first_fault (feature_fault cell) (finite.entries cell.features) ≡ a → option_or a (first_fault (vector_fault cell) (finite.entries cell.vectors)) ≡ Some fault → IsLeastFault cell fault
    go (Some first) is e =
        of_features (least_fault (feature_fault cell) (finite.entries cell.features) fault (finite.entries_sorted cell.features) (is ∙ e))
    go None is e =
        of_vectors (no_fault (feature_fault cell) (finite.entries cell.features) is) (least_fault (vector_fault cell) (finite.entries cell.vectors) fault (finite.entries_sorted cell.vectors) e)

-- a closed chart has no fault
pub faultless : (cell : CellValue) → IsCell cell → IsClosed cell → closure_fault cell ≡ None
faultless cell kept none = go (closure_fault cell) refl
  where
    is_none_of : (o : Option ClosureFault) → IsNone o → o ≡ None
    is_none_of None h = refl
    is_none_of (Some x) h = absurd (false≢true (sym h))

    go : (o : Option ClosureFault) → closure_fault cell ≡ o → closure_fault cell ≡ None
    go None e = e
    go (Some fault) e =
        let l = least cell fault kept e in
        absurd (none-some fault (sym (is_none_of (fault_at cell l.name) (none l.name)) ∙ l.has))

-- what an answer says, that is the chart's fault
pub answer_closed : (cell : CellValue) (r : Result (Unit {0}) ClosureFault) → IsCell cell → result_err r ≡ closure_fault cell → IsOk r ↔ IsClosed cell
answer_closed cell (Ok x) kept e = (λ _. closed cell (sym e), λ _. refl)
answer_closed cell (Err fault) kept e =
    (λ h. absurd (false≢true h), λ none. absurd (none-some fault (sym (faultless cell kept none) ∙ sym e)))

pub answer_least : (cell : CellValue) (r : Result (Unit {0}) ClosureFault) → IsCell cell → result_err r ≡ closure_fault cell → IfErr r (λ fault. IsLeastFault cell fault)
answer_least cell (Ok x) kept e = tt
answer_least cell (Err fault) kept e = least cell fault kept (sym e)

-- the fault of the features, and without one that of the vector records
pub found_first : (cell : CellValue) (fault : ClosureFault) → Some fault ≡ first_fault (feature_fault cell) (finite.entries cell.features) → Some fault ≡ closure_fault cell
found_first cell fault e =
    ap (λ (o : Option ClosureFault). option_or o (first_fault (vector_fault cell) (finite.entries cell.vectors))) e ∙ sym (closure_split cell)

pub found_then : (cell : CellValue) (o : Option ClosureFault) → None ≡ first_fault (feature_fault cell) (finite.entries cell.features) → o ≡ first_fault (vector_fault cell) (finite.entries cell.vectors) → o ≡ closure_fault cell
found_then cell o e f =
    f ∙ ap (λ (o : Option ClosureFault). option_or o (first_fault (vector_fault cell) (finite.entries cell.vectors))) e ∙ sym (closure_split cell)

-- What isn't a fault stays none where the records are kept.
use Rattle.std.proofs.Common.{◌≡◌, Bool, cond, true, false, not, ◌&&◌, ◌||◌, eqb, List, [], ◌∷◌, map, Option, Some, None, option_map, option_and_then, is_some, is_none, IsSome, IsNone, refl, sym, ap, ◌∙◌, inl, inr, ◌⊎◌}
use Rattle.std.specs.List.{find, list_all}
use Rattle.std.specs.FinMap as finite
use Rattle.std.proofs.lemmas.Bool.{false≢true, not-false}
use Rattle.std.proofs.lemmas.Option.{none-some}
use Rattle.chart_model.specs.declared.name.Name.{Name}
use Rattle.chart_model.specs.declared.record.Pointer.{Pointer}
use Rattle.chart_model.specs.declared.cell.Vector.{Vector}
use Rattle.chart_model.specs.declared.cell.Feature.{Feature}
use Rattle.chart_model.specs.Cell.{CellValue}
use Rattle.area_rings.specs.Shape.{line_of, shape_of}
use Rattle.area_rings.specs.KeptEdges.{KeepsVectors, StandsFor}
use Rattle.chart_closure.specs.declared.fault.ClosureFault.{ClosureFault}
use Rattle.chart_closure.specs.declared.fault.ClosureFault.TheVariants.{Dangling, EdgeNodes, RingOpen, WrongPointer}
use Rattle.chart_model.specs.Answers.{when, first_of}
use Rattle.chart_closure.specs.Closed.{has_record, absent_target, vector_may_point, feature_may_point, vector_fault, feature_fault, fault_at, IsClosed}
use Rattle.chart_closure.specs.Unchanged.{KeepsRecords, ShowsTheSame, StandsStill, StandsAsBefore}
use Rattle.chart_closure.proofs.Faults.{vector_pointers_fit, lacks_line, feature_pointers_fit, lacks_rings, vector_faultless, feature_faultless}

-- the records, the lines and the shapes that there were are there
pub record Keeps (before after : CellValue) : Type 0 where
  pub records : KeepsRecords before after
  pub line : (name : Name) → IsSome (line_of before name false) → IsSome (line_of after name false)
  pub shape : (feature : Feature) → IsSome (shape_of before feature) → IsSome (shape_of after feature)

-- ---- targets

either_kept : (a b c d : Bool) → (a ≡ true → c ≡ true) → (b ≡ true → d ≡ true) → (a || b) ≡ true → (c || d) ≡ true
either_kept true b c d f g e = rw (f refl) refl
either_kept false b true d f g e = refl
either_kept false b false d f g e = g e

vector_there : (before after : CellValue) (name : Name) → KeepsVectors before after → IsSome (finite.get before.vectors name) → IsSome (finite.get after.vectors name)
vector_there before after name keeps h = go (finite.get before.vectors name) refl h
  where
    go : (o : Option Vector) → finite.get before.vectors name ≡ o → IsSome o → IsSome (finite.get after.vectors name)
    go None e h = absurd (false≢true h)
    go (Some vector) e h =
        let kept = rw e at (keeps name) in
        ap is_some kept.1

record_there : (before after : CellValue) (name : Name) → KeepsRecords before after → has_record before name ≡ true → has_record after name ≡ true
record_there before after name keeps h =
    either_kept _ _ _ _ (vector_there before after name keeps.vectors) (keeps.features name) h

none_found : {A : Type 0} (p q : A → Bool) (xs : List A) → ((x : A) → p x ≡ false → q x ≡ false) → find p xs ≡ None → find q xs ≡ None
none_found p q [] keeps e = refl
none_found {A} p q (x ∷ xs) keeps e = go (p x) refl e (none_found p q xs keeps)
  where
    go : (b : Bool) → p x ≡ b → cond b (Some x) (find p xs) ≡ None → (find p xs ≡ None → find q xs ≡ None) → cond (q x) (Some x) (find q xs) ≡ None
    go true f e later = absurd (none-some x (sym e))
    go false f e later = rw (keeps x f) (later e)

targets_there : (before after : CellValue) (pointers : List Pointer) → KeepsRecords before after → absent_target before pointers ≡ None → absent_target after pointers ≡ None
targets_there before after pointers keeps e =
    none_found (λ target. not (has_record before target)) (λ target. not (has_record after target)) (map (λ pointer. pointer.target) pointers)
    (λ target there. ap not (record_there before after target keeps (not-false _ there)))
    e

-- ---- faults

unmapped : {A B : Type 0} (f : A → B) (o : Option A) → option_map f o ≡ None → o ≡ None
unmapped f None e = refl
unmapped f (Some x) e = absurd (none-some (f x) (sym e))

no_case : (so : Bool) (fault : ClosureFault) (rest : List (Option ClosureFault)) → first_of (when so fault ∷ rest) ≡ None → (so ≡ false) × (first_of rest ≡ None)
no_case true fault rest e = absurd (none-some fault (sym e))
no_case false fault rest e = (refl, e)

no_first : (o : Option ClosureFault) (rest : List (Option ClosureFault)) → first_of (o ∷ rest) ≡ None → (o ≡ None) × (first_of rest ≡ None)
no_first None rest e = (refl, e)
no_first (Some fault) rest e = absurd (none-some fault (sym e))

-- what a vector record without a fault is
vector_parts : (cell : CellValue) (name : Name) (vector : Vector) → vector_fault cell name vector ≡ None → (absent_target cell vector.pointers ≡ None) × (vector_pointers_fit name vector ≡ true) × (lacks_line cell name ≡ false)
unfolding vector_fault
vector_parts cell name vector e =
    let targets = no_first (option_map (Dangling name) (absent_target cell vector.pointers)) _ e in
    let pointers = no_case (not (vector_pointers_fit name vector)) (WrongPointer name) _ targets.1 in
    let line = no_case (lacks_line cell name) (EdgeNodes name) [] pointers.1 in
    (unmapped (Dangling name) _ targets.0, not-false _ pointers.0, line.0)

-- what a feature without a fault is
feature_parts : (cell : CellValue) (name : Name) (feature : Feature) → feature_fault cell name feature ≡ None → (absent_target cell feature.pointers ≡ None) × (feature_pointers_fit feature ≡ true) × (lacks_rings cell feature ≡ false)
unfolding feature_fault
feature_parts cell name feature e =
    let targets = no_first (option_map (Dangling name) (absent_target cell feature.pointers)) _ e in
    let pointers = no_case (not (feature_pointers_fit feature)) (WrongPointer name) _ targets.1 in
    let rings = no_case (lacks_rings cell feature) (RingOpen name) [] pointers.1 in
    (unmapped (Dangling name) _ targets.0, not-false _ pointers.0, rings.0)

never_lost : {A : Type 0} (kind : Bool) (before after : Option A) → (IsSome before → IsSome after) → (kind && is_none before) ≡ false → (kind && is_none after) ≡ false
never_lost false before after keeps e = refl
never_lost true None after keeps e = absurd (false≢true (sym e))
never_lost true (Some x) None keeps e = absurd (false≢true (keeps refl))
never_lost true (Some x) (Some y) keeps e = refl

-- without a fault, a vector record leaves none to one that stands for it
vector_stays : (before after : CellValue) (name : Name) (vector made : Vector) → Keeps before after →
    StandsFor vector made → vector_fault before name vector ≡ None → vector_fault after name made ≡ None
vector_stays before after name vector made keeps stands e =
    let parts = vector_parts before name vector e in
    vector_faultless after name made
    (ap (absent_target after) stands.pointers ∙ targets_there before after vector.pointers keeps.records parts.0)
    (ap (list_all (λ pointer. vector_may_point name pointer.target)) stands.pointers ∙ parts.1)
    (never_lost (eqb name.rcnm 130) (line_of before name false) (line_of after name false) (keeps.line name) parts.2)

-- a shape is one of a primitive and of pointers
same_shape : (cell : CellValue) (feature made : Feature) → ShowsTheSame feature made →
    shape_of cell made ≡ shape_of cell feature
unfolding shape_of
same_shape cell feature made shows =
    λ i. shape_of cell (record feature { prim = shows.prim i; pointers = shows.pointers i })

feature_stays : (before after : CellValue) (name : Name) (feature made : Feature) → Keeps before after →
    ShowsTheSame feature made → feature_fault before name feature ≡ None → feature_fault after name made ≡ None
feature_stays before after name feature made keeps shows e =
    let parts = feature_parts before name feature e in
    let right : feature_pointers_fit made ≡ feature_pointers_fit feature =
    λ i. list_all (λ pointer. feature_may_point (shows.prim i) pointer.target) (shows.pointers i) in
    let rings : lacks_rings after made ≡ lacks_rings after feature =
    λ i. eqb (shows.prim i) 3 && is_none (same_shape after feature made shows i) in
    feature_faultless after name made
    (ap (absent_target after) shows.pointers ∙ targets_there before after feature.pointers keeps.records parts.0)
    (right ∙ parts.1)
    (rings
    ∙ never_lost (eqb feature.prim 3) (shape_of before feature) (shape_of after feature) (keeps.shape feature) parts.2)

-- ---- charts

stays : {A : Type 0} (Stands : A → A → Type 0) (f g : A → Option ClosureFault) (o p : Option A) →
    ((x y : A) → Stands x y → f x ≡ None → g y ≡ None) → StandsStill Stands o p →
    option_and_then f o ≡ None → option_and_then g p ≡ None
stays Stands f g None p keeps still e = ap (option_and_then g) still
stays Stands f g (Some x) None keeps still e = absurd still
stays Stands f g (Some x) (Some y) keeps still e = keeps x y still e

neither : (a b : Option ClosureFault) → IsNone (first_of (a ∷ b ∷ [])) → (a ≡ None) × (b ≡ None)
neither None None h = (refl, refl)
neither None (Some fault) h = absurd (false≢true (sym h))
neither (Some fault) b h = absurd (false≢true (sym h))

name_stays : (before after : CellValue) (name : Name) → Keeps before after → StandsAsBefore before after name →
    IsNone (fault_at before name) → IsNone (fault_at after name)
unfolding fault_at
name_stays before after name keeps still h =
    let feature_before = finite.get before.features name in
    let vector_before = finite.get before.vectors name in
    let none = neither
    (option_and_then (feature_fault before name) feature_before)
    (option_and_then (vector_fault before name) vector_before)
    h in
    let feature = stays
    ShowsTheSame (feature_fault before name) (feature_fault after name)
    feature_before (finite.get after.features name)
    (λ one other. feature_stays before after name one other keeps) still.feature none.0 in
    let vector = stays
    StandsFor (vector_fault before name) (vector_fault after name)
    vector_before (finite.get after.vectors name)
    (λ one other. vector_stays before after name one other keeps) still.vector none.1 in
    rw (feature, vector) refl

pub chart_stays : (before after : CellValue) → Keeps before after → IsClosed before →
    ((name : Name) → IsNone (fault_at after name) ⊎ StandsAsBefore before after name) → IsClosed after
chart_stays before after keeps closed looked name = go (looked name)
  where
    go : IsNone (fault_at after name) ⊎ StandsAsBefore before after name → IsNone (fault_at after name)
    go (inl none) = none
    go (inr still) = name_stays before after name keeps still (closed name)

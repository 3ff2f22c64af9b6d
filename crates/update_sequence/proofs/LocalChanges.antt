-- Changes that can't break what other records are.
use Rattle.std.proofs.Common.{◌≡◌, ◌≢◌, ◌⊎◌, inl, inr, ◌≤◌, ℕ, ◌+◌, ◌-◌, ◌==◌, Bool, true, false, not, ◌&&◌, ◌||◌, if◌then◌else◌, List, [], ◌∷◌, ◌++◌, length, take, drop, Option, Some, None, Ok, IfSome, IsSome, IsSomeAnd, IsNone, is_some, is_none, option_map, refl, sym, ap, ◌∙◌, subst, arith}
use Rattle.std.specs.List.{AllByRecursion, cons_option, filter_map, list_all}
use Rattle.std.specs.FinMap as map
use Rattle.std.specs.Ordering.{eq_by_cmp}
use Rattle.std.proofs.lemmas.Bool.{true≢false, eqb-true, or_cases, or_parts, and_parts, not-true, not-false}
use Rattle.std.proofs.lemmas.List.{length-append, length-take, length-drop, nil_from_length}
use Rattle.chart_model.specs.declared.name.Name.{Name}
use Rattle.chart_model.specs.declared.cell.Vector.{Vector}
use Rattle.chart_model.specs.declared.cell.Feature.{Feature}
use Rattle.chart_model.specs.declared.dataset.Header.{Header}
use Rattle.chart_model.specs.declared.update_record.Control.{Control}
use Rattle.chart_model.specs.Cell.{CellValue}
use Rattle.chart_model.specs.Change.{Change}
use Rattle.chart_model.specs.Names.{name_cmp, edited_at, edited_in}
use Rattle.area_rings.specs.KeptEdges.{StandsFor}
use Rattle.chart_closure.specs.Closed.{fault_at, IsClosed}
use Rattle.chart_closure.specs.Unchanged.{KeepsRecords, ShowsTheSame, StandsStill, StandsAsBefore}
use Rattle.update_apply.specs.declared.fault.ChangeFault.{ChangeFault}
use Rattle.update_apply.specs.declared.fault.ChangeFault.TheVariants as fault
use Rattle.update_apply.specs.Edited.{list_after, edited_by}
use Rattle.chart_model.specs.Answers.{when, first_of}
use Rattle.update_apply.specs.Fault.{is_feature, held_vector, held_feature, inserts, deletes, modifies, count_fault, edit_faults, held_faults, fault_by, fault_of}
use Rattle.update_apply.specs.Changed.{cell_after, records_after, inserted_vector, inserted_feature, modified_vector}
use Rattle.update_apply.specs.Changed.{modified_feature}
use Rattle.update_sequence.specs.Built.{begun, folded}
use Rattle.update_sequence.specs.Extended.{keeps_coords, is_local, are_local, asks_closure, asked_target}
use Rattle.update_sequence.specs.Extended.{have_no_closure_fault}
use Rattle.update_sequence.proofs.Charts.{folded-keeps}
use Rattle.update_sequence.proofs.OneName.{ChangedAt, same_name, get-new, vectors-at, features-at}

-- ---- what it says of a change that it is local

-- what a local change is
local-kind : (change : Change) → is_local change ≡ true → (inserts change ≡ true) ⊎ ((modifies change ≡ true) × ((is_feature change.target || (is_none change.pointer_edit && keeps_coords change.coord_edit)) ≡ true))
local-kind change local =
    elim (or_cases (inserts change) _ local) [
      | inl new ↦ inl new
      | inr other ↦ inr (and_parts (modifies change) _ other)
    ]

pub local-stays : (change : Change) → is_local change ≡ true → deletes change ≡ false
local-stays change local =
    elim (local-kind change local) [
      | inl new ↦ ap (λ n. n == 2) (eqb-true change.ruin 1 new)
      | inr other ↦ ap (λ n. n == 2) (eqb-true change.ruin 3 other.0)
    ]

-- ---- lists that are edited

list_after-none : {A : Type 0} (edit : Option Control) (given items : List A) → is_none edit ≡ true
    → list_after edit given items ≡ items
list_after-none None given items none = refl
list_after-none (Some control) given items none = absurd (true≢false (sym none))

quiet : (so : Bool) (what : ChangeFault) → when so what ≡ None → so ≡ false
quiet true what e = absurd (true≢false (ap is_some e))
quiet false what e = refl

-- an edit that isn't a deletion gives as many items as it takes, where it has no fault of count
replaced-count : {A : Type 0} (name : Name) (control : Control) (given : List A) → not (control.instruction == 2) ≡ true → count_fault name (Some control) given ≡ None → control.count ≡ length given
replaced-count name control given keeps none =
    let so = quiet (not (control.instruction == 2) && not (control.count == length given)) (fault.Count name control.count (length given)) none in
    eqb-true control.count (length given)
    (not-false (control.count == length given) (sym (ap (λ b. b && not (control.count == length given)) keeps) ∙ so))

-- it leaves at least as many items as there were
edited-length : {A : Type 0} (name : Name) (control : Control) (given items : List A) → not (control.instruction == 2) ≡ true → count_fault name (Some control) given ≡ None → length items ≤ length (edited_by control given items)
edited-length {A} name control given items keeps none =
    let f = control.index - 1 in
    let n = control.count in
    let many : n ≡ length given = replaced-count name control given keeps none in
    elim (control.instruction == 1) as (λ b. length items ≤ length (if b then take f items ++ given ++ drop f items
    else if control.instruction == 2 then take f items ++ drop (f + n) items else take f items ++ given ++ drop (f + n) items)) [
      | true ↦ omega (arith, length-append (take f items ++ given) (drop f items), length-append (take f items) given, length-take f items, length-drop f items)
      | false ↦ rw (not-true (control.instruction == 2) keeps)
          (omega (arith, many, length-append (take f items ++ given) (drop (f + n) items), length-append (take f items) given, length-take f items, length-drop (f + n) items))
    ]

list_after-some : {A : Type 0} (name : Name) (edit : Option Control) (given items : List A) → keeps_coords edit ≡ true
    → count_fault name edit given ≡ None → items ≢ [] → list_after edit given items ≢ []
list_after-some name None given items keeps none some = some
list_after-some name (Some control) given items keeps none some = λ gone.
    some (nil_from_length items (omega (arith, edited-length name control given items keeps none, ap length gone)))

-- ---- faults that a change hasn't

abbrev AreNone : List (Option ChangeFault) → Type 0
AreNone faults = AllByRecursion (λ found. found ≡ None) faults

first-none : (faults : List (Option ChangeFault)) → first_of faults ≡ None → AreNone faults
first-none [] e = tt
first-none (None ∷ more) e = (refl, first-none more e)
first-none (Some what ∷ more) e = absurd (true≢false (ap is_some e))

module _ (cell : CellValue) (change : Change) (kept : Vector) (none : fault_of cell change ≡ None) (other : is_feature change.target ≡ false)
    (there : map.get cell.vectors change.target ≡ Some kept) where
  kept-none : AreNone (held_faults change (held_vector kept))
  kept-none =
      first-none (held_faults change (held_vector kept))
      (sym (λ i. fault_by (if other i then option_map held_feature (map.get cell.features change.target) else option_map held_vector (there i)) change) ∙ none)

  -- a record that is there isn't inserted
  not-inserted : inserts change ≡ false
  not-inserted = quiet (inserts change) (fault.Present change.target) kept-none.0

  counted : modifies change ≡ true → count_fault change.target change.coord_edit change.coords ≡ None
  counted so =
      (first-none (edit_faults change (held_vector kept))
      (ap (λ (b : Bool). if b then first_of (edit_faults change (held_vector kept)) else None) (sym so) ∙ kept-none.1.1.1.0)).1.1.1.1.0

-- ---- vector records that stand for those before

stands-itself : (vector : Vector) → StandsFor vector vector
stands-itself vector = record { pointers = refl; placed = λ some. some }

stands-then : (first second third : Vector) → StandsFor first second → StandsFor second third → StandsFor first third
stands-then first second third one two = record { pointers = two.pointers ∙ one.pointers; placed = λ some. two.placed (one.placed some) }

-- a vector record stands in the map for another
abbrev Stands : Option Vector → Vector → Type 0
Stands found vector = (kept : Vector) × (found ≡ Some kept) × StandsFor vector kept

modified-stands : (change : Change) (kept : Vector) → (is_none change.pointer_edit && keeps_coords change.coord_edit) ≡ true → count_fault change.target change.coord_edit change.coords ≡ None → StandsFor kept (modified_vector change kept)
modified-stands change kept edits none =
    let parts = and_parts (is_none change.pointer_edit) _ edits in
    record {
      pointers = list_after-none change.pointer_edit change.pointers kept.pointers parts.0;
      placed = list_after-some change.target change.coord_edit change.coords kept.coords parts.1 none;
    }

-- what a modification makes of records
modified-is : (records : map.FinMap name_cmp Vector) (change : Change) (kept : Vector) → modifies change ≡ true → map.get records change.target ≡ Some kept
    → records_after inserted_vector modified_vector records change
    ≡ map.insert records change.target (modified_vector change kept)
modified-is records change kept so there =
    ap (λ (n : ℕ). if n == 1 then map.insert records change.target (inserted_vector change)
    else if n == 2 then map.remove records change.target else edited_in (modified_vector change) records change.target) (eqb-true change.ruin 3 so)
    ∙ ap (edited_at (modified_vector change) records change.target) there

module _ (cell : CellValue) (change : Change) (local : is_local change ≡ true) (none : fault_of cell change ≡ None) where
  -- under the changed name
  target-stands : (vector : Vector) → map.get cell.vectors change.target ≡ Some vector
      → Stands (map.get (cell_after cell change).vectors change.target) vector
  target-stands vector there = by (is_feature change.target) refl
    where
      by : (b : Bool) → is_feature change.target ≡ b → Stands (map.get (if b
          then record cell { features = records_after inserted_feature modified_feature cell.features change }
          else record cell { vectors = records_after inserted_vector modified_vector cell.vectors change }).vectors
          change.target) vector
      by true so = (vector, there, stands-itself vector)
      by false other =
          elim (local-kind change local) [
            | inl new ↦ absurd (true≢false (sym new ∙ not-inserted cell change vector none other there))
            | inr kind ↦
                let edits : (is_none change.pointer_edit && keeps_coords change.coord_edit) ≡ true = sym (ap (λ b. b || (is_none change.pointer_edit && keeps_coords change.coord_edit)) other) ∙ kind.1 in (
                  modified_vector change vector,
                  ap (λ m. map.get m change.target) (modified-is cell.vectors change vector kind.0 there) ∙ get-new cell.vectors change.target (modified_vector change vector),
                  modified-stands change vector edits (counted cell change vector none other there kind.0),
                )
          ]

  -- under any name
  vector-stands : (name : Name) (vector : Vector) → map.get cell.vectors name ≡ Some vector
      → Stands (map.get (cell_after cell change).vectors name) vector
  vector-stands name vector there = by (eq_by_cmp name_cmp name change.target) refl
    where
      by : (b : Bool) → eq_by_cmp name_cmp name change.target ≡ b
          → Stands (map.get (cell_after cell change).vectors name) vector
      by true same =
          let e = same_name name change.target same in
          subst (λ n. Stands (map.get (cell_after cell change).vectors n) vector) (sym e)
          (target-stands vector (ap (map.get cell.vectors) (sym e) ∙ there))
      by false apart = (vector, (vectors-at cell change (local-stays change local)).others name apart ∙ there, stands-itself vector)

  feature-stays : (name : Name) → IsSome (map.get cell.features name)
      → IsSome (map.get (cell_after cell change).features name)
  feature-stays name some = by (eq_by_cmp name_cmp name change.target) refl
    where
      at : ChangedAt change.target cell.features (cell_after cell change).features
      at = features-at cell change (local-stays change local)

      by : (b : Bool) → eq_by_cmp name_cmp name change.target ≡ b
          → IsSome (map.get (cell_after cell change).features name)
      by true same =
          let e = same_name name change.target same in
          subst (λ n. IsSome (map.get (cell_after cell change).features n)) (sym e)
          (at.kept (subst (λ n. IsSome (map.get cell.features n)) e some))
      by false apart = ap is_some (at.others name apart) ∙ some

-- ---- charts

if-some : {A : Type 0} (P : A → Type 0) (o : Option A) → ((x : A) → o ≡ Some x → P x) → IfSome o P
if-some P None each = tt
if-some P (Some x) each = each x refl

at-some : {A : Type 0} (P : A → Type 0) (o : Option A) (x : A) → o ≡ Some x → IfSome o P → P x
at-some P o x is has = subst (λ found. IfSome found P) is has

keeps-itself : (chart : CellValue) (header : Header) → KeepsRecords chart (begun (Some chart) header)
keeps-itself chart header = record {
  vectors = λ name. if-some _ (map.get chart.vectors name) (λ vector there. (vector, there, stands-itself vector));
  features = λ name some. some;
}

keeps-next : (chart cell : CellValue) (change : Change) → KeepsRecords chart cell → is_local change ≡ true
    → fault_of cell change ≡ None → KeepsRecords chart (cell_after cell change)
keeps-next chart cell change keeps local none = record {
  vectors = λ name. if-some _ (map.get chart.vectors name) (λ vector there.
      let before = at-some (Stands (map.get cell.vectors name)) (map.get chart.vectors name) vector there (keeps.vectors name) in
      let after = vector-stands cell change local none name before.0 before.1 in
      (after.0, after.1, stands-then vector before.0 after.0 before.2 after.2));
  features = λ name some. feature-stays cell change local none name (keeps.features name some);
}

each-local : (changes : List Change) → are_local changes ≡ true → AllByRecursion (λ change. is_local change ≡ true) changes
each-local [] local = tt
each-local (change ∷ rest) local =
    let parts = and_parts (is_local change) (are_local rest) local in
    (parts.0, each-local rest parts.1)

-- local changes keep what closure looks at
keeps-all : (chart after : CellValue) (header : Header) (changes : List Change) → are_local changes ≡ true → folded (begun (Some chart) header) changes ≡ Ok after → KeepsRecords chart after
keeps-all chart after header changes local made =
    folded-keeps (KeepsRecords chart) (λ change. is_local change ≡ true) (λ cell change here local none. keeps-next chart cell change here local none)
    (begun (Some chart) header) after changes (keeps-itself chart header) (each-local changes local) made

-- ---- records that stand as before

still-itself : {V : Type 0} (Stands : V → V → Type 0) → ((x : V) → Stands x x) → (o : Option V) → StandsStill Stands o o
still-itself Stands itself None = refl
still-itself Stands itself (Some x) = itself x

still-same : {V : Type 0} (Stands : V → V → Type 0) → ((x : V) → Stands x x) → (o p : Option V) → p ≡ o →
    StandsStill Stands o p
still-same Stands itself o p same = subst (λ q. StandsStill Stands o q) (sym same) (still-itself Stands itself o)

still-then : {V : Type 0} (Stands : V → V → Type 0) → ((x y z : V) → Stands x y → Stands y z → Stands x z) →
    (o p q : Option V) → StandsStill Stands o p → StandsStill Stands p q → StandsStill Stands o q
still-then Stands turn None p q one two = subst (λ found. StandsStill Stands found q) one two
still-then Stands turn (Some x) None q one two = absurd one
still-then Stands turn (Some x) (Some y) None one two = absurd two
still-then Stands turn (Some x) (Some y) (Some z) one two = turn x y z one two

shows-itself : (feature : Feature) → ShowsTheSame feature feature
shows-itself feature = record { prim = refl; pointers = refl }

shows-then : (first second third : Feature) → ShowsTheSame first second → ShowsTheSame second third →
    ShowsTheSame first third
shows-then first second third one two = record { prim = two.prim ∙ one.prim; pointers = two.pointers ∙ one.pointers }

stands-begun : (chart : CellValue) (header : Header) (name : Name) →
    StandsAsBefore chart (begun (Some chart) header) name
stands-begun chart header name = record {
  vector = still-itself StandsFor stands-itself (map.get chart.vectors name);
  feature = still-itself ShowsTheSame shows-itself (map.get chart.features name);
}

stands-next : (chart cell after : CellValue) (name : Name) → StandsAsBefore chart cell name →
    StandsAsBefore cell after name → StandsAsBefore chart after name
stands-next chart cell after name one two = record {
  vector = still-then StandsFor stands-then
      (map.get chart.vectors name) (map.get cell.vectors name) (map.get after.vectors name) one.vector two.vector;
  feature = still-then ShowsTheSame shows-then
      (map.get chart.features name) (map.get cell.features name) (map.get after.features name) one.feature two.feature;
}

-- what a modification leaves under its name
modified-at : {V : Type 0} (inserted : Change → V) (modified : Change → V → V) (records : map.FinMap name_cmp V)
    (change : Change) → modifies change ≡ true →
    map.get (records_after inserted modified records change) change.target
    ≡ option_map (modified change) (map.get records change.target)
modified-at {V} inserted modified records change so =
    ap (λ (n : ℕ). map.get (if n == 1 then map.insert records change.target (inserted change)
    else if n == 2 then map.remove records change.target
    else edited_in (modified change) records change.target) change.target) (eqb-true change.ruin 3 so)
    ∙ at (map.get records change.target) refl
  where
    at : (o : Option V) → map.get records change.target ≡ o →
        map.get (edited_at (modified change) records change.target o) change.target ≡ option_map (modified change) o
    at None there = there
    at (Some kept) there = get-new records change.target (modified change kept)

modified-shows : (change : Change) → is_none change.pointer_edit ≡ true → (o : Option Feature) →
    StandsStill ShowsTheSame o (option_map (modified_feature change) o)
modified-shows change edits None = refl
modified-shows change edits (Some kept) =
    record { prim = refl; pointers = list_after-none change.pointer_edit change.pointers kept.pointers edits }

-- a change that asks nothing is a modification without an edit of pointers
asks-nothing : (change : Change) → asks_closure change ≡ false →
    (modifies change ≡ true) × (is_none change.pointer_edit ≡ true)
asks-nothing change quiet =
    let parts = or_parts (not (modifies change)) (is_some change.pointer_edit) quiet in
    (not-false (modifies change) parts.0, ap not parts.1)

module _ (cell : CellValue) (change : Change) (local : is_local change ≡ true) (none : fault_of cell change ≡ None)
    (asks : asks_closure change ≡ false) where
  vector-still : StandsStill StandsFor
      (map.get cell.vectors change.target) (map.get (cell_after cell change).vectors change.target)
  vector-still = by (map.get cell.vectors change.target) refl
    where
      gone : (b : Bool) → is_feature change.target ≡ b → map.get cell.vectors change.target ≡ None →
          map.get (if b
          then record cell { features = records_after inserted_feature modified_feature cell.features change }
          else record cell { vectors = records_after inserted_vector modified_vector cell.vectors change }).vectors
          change.target ≡ None
      gone true so there = there
      gone false other there =
          modified-at inserted_vector modified_vector cell.vectors change (asks-nothing change asks).0
          ∙ ap (option_map (modified_vector change)) there

      by : (o : Option Vector) → map.get cell.vectors change.target ≡ o →
          StandsStill StandsFor o (map.get (cell_after cell change).vectors change.target)
      by None there = gone (is_feature change.target) refl there
      by (Some vector) there =
          let after = target-stands cell change local none vector there in
          subst (λ found. IsSomeAnd found (StandsFor vector)) (sym after.1) after.2

  feature-still : StandsStill ShowsTheSame
      (map.get cell.features change.target) (map.get (cell_after cell change).features change.target)
  feature-still = by (is_feature change.target)
    where
      by : (b : Bool) → StandsStill ShowsTheSame (map.get cell.features change.target) (map.get (if b
          then record cell { features = records_after inserted_feature modified_feature cell.features change }
          else record cell { vectors = records_after inserted_vector modified_vector cell.vectors change }).features
          change.target)
      by true =
          let parts = asks-nothing change asks in
          subst (λ found. StandsStill ShowsTheSame (map.get cell.features change.target) found)
          (sym (modified-at inserted_feature modified_feature cell.features change parts.0))
          (modified-shows change parts.1 (map.get cell.features change.target))
      by false = still-itself ShowsTheSame shows-itself (map.get cell.features change.target)

-- a change of another name, or one that asks nothing of closure
abbrev Leaves : Name → Change → Type 0
Leaves name change = (eq_by_cmp name_cmp name change.target ≡ false) ⊎ (asks_closure change ≡ false)

-- such a change, where it is local, leaves what stands under a name
left-still : (cell : CellValue) (change : Change) (name : Name) → is_local change ≡ true → fault_of cell change ≡ None →
    Leaves name change → StandsAsBefore cell (cell_after cell change) name
left-still cell change name local none leaves = by (eq_by_cmp name_cmp name change.target) refl leaves
  where
    others : eq_by_cmp name_cmp name change.target ≡ false → StandsAsBefore cell (cell_after cell change) name
    others apart = record {
      vector = still-same StandsFor stands-itself
          (map.get cell.vectors name) (map.get (cell_after cell change).vectors name)
          ((vectors-at cell change (local-stays change local)).others name apart);
      feature = still-same ShowsTheSame shows-itself
          (map.get cell.features name) (map.get (cell_after cell change).features name)
          ((features-at cell change (local-stays change local)).others name apart);
    }

    by : (b : Bool) → eq_by_cmp name_cmp name change.target ≡ b → Leaves name change →
        StandsAsBefore cell (cell_after cell change) name
    by false apart leaves = others apart
    by true same (inl apart) = others apart
    by true same (inr asks) =
        subst (λ n. StandsAsBefore cell (cell_after cell change) n) (sym (same_name name change.target same)) (record {
          vector = vector-still cell change local none asks;
          feature = feature-still cell change local none asks;
        })

-- a record has no fault, or all changes leave what is under its name
faultless-or-left : (after : CellValue) (changes : List Change) → have_no_closure_fault after changes ≡ true →
    (name : Name) → IsNone (fault_at after name) ⊎ AllByRecursion (Leaves name) changes
faultless-or-left after [] faultless name = inr tt
faultless-or-left after (change ∷ rest) faultless name =
    by (asks_closure change) refl faultless (λ faultless. faultless-or-left after rest faultless name)
  where
    tell : Name → Bool
    tell name = is_none (fault_at after name)

    left : Leaves name change → IsNone (fault_at after name) ⊎ AllByRecursion (Leaves name) rest →
        IsNone (fault_at after name) ⊎ AllByRecursion (Leaves name) (change ∷ rest)
    left leaves (inl none) = inl none
    left leaves (inr others) = inr (leaves, others)

    looked : (b : Bool) → eq_by_cmp name_cmp name change.target ≡ b → tell change.target ≡ true →
        IsNone (fault_at after name) ⊎ AllByRecursion (Leaves name) rest →
        IsNone (fault_at after name) ⊎ AllByRecursion (Leaves name) (change ∷ rest)
    looked true same none later = inl (subst (λ n. IsNone (fault_at after n)) (sym (same_name name change.target same))
        (not-true (is_some (fault_at after change.target)) none))
    looked false apart none later = left (inl apart) later

    by : (b : Bool) → asks_closure change ≡ b →
        list_all tell (cons_option (when b change.target) (filter_map asked_target rest)) ≡ true →
        (have_no_closure_fault after rest ≡ true → IsNone (fault_at after name) ⊎ AllByRecursion (Leaves name) rest) →
        IsNone (fault_at after name) ⊎ AllByRecursion (Leaves name) (change ∷ rest)
    by true asks faultless later =
        let parts = and_parts (tell change.target) (have_no_closure_fault after rest) faultless in
        looked (eq_by_cmp name_cmp name change.target) refl parts.0 (later parts.1)
    by false asks faultless later = left (inr asks) (later faultless)

both : {A : Type 0} (P Q : A → Type 0) (xs : List A) → AllByRecursion P xs → AllByRecursion Q xs →
    AllByRecursion (λ x. P x × Q x) xs
both P Q [] p q = tt
both P Q (x ∷ xs) p q = ((p.0, q.0), both P Q xs p.1 q.1)

-- so a closed chart stays closed, by the law of charts
pub stays-closed : ((before after : CellValue) → IsClosed before → KeepsRecords before after →
    ((name : Name) → IsNone (fault_at after name) ⊎ StandsAsBefore before after name) → IsClosed after) →
    (chart after : CellValue) (header : Header) (changes : List Change) → IsClosed chart →
    folded (begun (Some chart) header) changes ≡ Ok after → are_local changes ≡ true →
    have_no_closure_fault after changes ≡ true → IsClosed after
stays-closed law chart after header changes closed made local faultless =
    law chart after closed (keeps-all chart after header changes local made) (λ name. faultless-or-still name)
  where
    faultless-or-still : (name : Name) → IsNone (fault_at after name) ⊎ StandsAsBefore chart after name
    faultless-or-still name =
        elim (faultless-or-left after changes faultless name) [
          | inl none ↦ inl none
          | inr left ↦ inr (folded-keeps (λ cell. StandsAsBefore chart cell name)
              (λ change. (is_local change ≡ true) × Leaves name change)
              (λ cell change still here none. stands-next chart cell (cell_after cell change) name still
              (left-still cell change name here.0 none here.1))
              (begun (Some chart) header) after changes (stands-begun chart header name)
              (both (λ change. is_local change ≡ true) (Leaves name) changes (each-local changes local) left) made)
        ]

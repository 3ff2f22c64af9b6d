-- Records that changes name, where no record is deleted: each has got another.
use Rattle.std.proofs.Common.{◌≡◌, inl, inr, ℕ, zero, suc, ◌+◌, ◌<◌, ◌≤◌, Bool, true, false, not, if◌then◌else◌, List}
use Rattle.std.proofs.Common.{[], ◌∷◌}
use Rattle.std.proofs.Common.{Option, Some, None, Ok, refl, sym, ap, ◌∙◌, subst, arith}
use Rattle.std.specs.Prelude.{map}
use Rattle.std.specs.Option.{option_map}
use Rattle.std.specs.List.{Contains}
use Rattle.std.specs.Ordering.{eq_by_cmp}
use Rattle.std.specs.FinMap as finite
use Rattle.std.proofs.lemmas.Bool.{and_parts, not-true, true≢false}
use Rattle.std.proofs.lemmas.List.Elements.{Contains-append_cases}
use Rattle.chart_model.specs.Answers.{first_of, when, unless}
use Rattle.chart_model.specs.declared.name.Name.{Name}
use Rattle.chart_model.specs.declared.cell.Vector.{Vector}
use Rattle.chart_model.specs.declared.cell.Feature.{Feature}
use Rattle.chart_model.specs.Cell.{CellValue}
use Rattle.chart_model.specs.Change.{Change}
use Rattle.chart_model.specs.Dataset.{DatasetValue}
use Rattle.chart_model.specs.Names.{name_cmp, edited_at}
use Rattle.update_apply.specs.declared.judge.HeldRecord.{HeldRecord}
use Rattle.update_apply.specs.declared.fault.ChangeFault.{ChangeFault}
use Rattle.update_apply.specs.declared.fault.ChangeFault.TheVariants as fault
use Rattle.update_apply.specs.Changed.{cell_after, records_after, inserted_vector, inserted_feature, modified_vector}
use Rattle.update_apply.specs.Changed.{modified_feature}
use Rattle.update_apply.specs.Fault.{is_feature, inserts, deletes, held_vector, held_feature, fault_by, fault_of}
use Rattle.update_sequence.specs.declared.fault.BuildFault.TheVariants as of_build
use Rattle.update_sequence.specs.Built.{begun, folded, built}
use Rattle.update_sequence.specs.Others.{HasOther, delete_none}
use Rattle.update_sequence.proofs.Charts.{bind-ok, unless-ok, built-ok}
use Rattle.update_sequence.proofs.DataSets.{ok_is}
use Rattle.update_sequence.proofs.OneName.{get-new, same_name}
use Rattle.update_sequence.proofs.OtherRecords.{cell_after-others}

-- ---- the age of a record: none, or one more than its version

abbrev age_in : {V : Type 0} → (V → ℕ) → Option V → ℕ
age_in version None = 0
age_in version (Some kept) = version kept + 1

abbrev vector_age : Option Vector → ℕ
vector_age found = age_in (λ (vector : Vector). vector.version) found

abbrev feature_age : Option Feature → ℕ
feature_age found = age_in (λ (feature : Feature). feature.version) found

abbrev age_by : Bool → CellValue → Name → ℕ
age_by b cell name =
    if b then feature_age (finite.get cell.features name) else vector_age (finite.get cell.vectors name)

abbrev age : CellValue → Name → ℕ
age cell name = age_by (is_feature name) cell name

-- ---- a change of one record

quiet-first : (b : Bool) (fault : ChangeFault) (more : List (Option ChangeFault))
    → first_of (when b fault ∷ more) ≡ None →
    b ≡ false
quiet-first true fault more e = absurd cc
quiet-first false fault more e = refl

quiet-one : (b : Bool) (fault : ChangeFault) → when b fault ≡ None → b ≡ false
quiet-one true fault e = absurd cc
quiet-one false fault e = refl

module _ {V : Type 0} (version : V → ℕ) (held_of : V → HeldRecord) (inserted : Change → V) (modified : Change → V → V)
    (raises : (change : Change) (kept : V) → version (modified change kept) ≡ version kept + 1) where
  abbrev made_by : finite.FinMap name_cmp V → Change → Bool → Bool → Option V → finite.FinMap name_cmp V
  made_by records change inserting deleting found =
      if inserting then finite.insert records change.target (inserted change)
      else if deleting then finite.remove records change.target
      else edited_at (modified change) records change.target found

  raised : (records : finite.FinMap name_cmp V) (change : Change) (inserting : Bool) (found : Option V) →
      inserts change ≡ inserting → fault_by (option_map held_of found) change ≡ None →
      age_in version found < age_in version (finite.get (made_by records change inserting false found) change.target)
  raised records change true None is none =
      let new = ap (age_in version) (get-new records change.target (inserted change)) in omega (arith, new)
  raised records change true (Some kept) is none =
      absurd (true≢false (sym is ∙ quiet-first (inserts change) (fault.Present change.target) _ none))
  raised records change false None is none =
      absurd (true≢false (ap not (sym is) ∙ quiet-one (not (inserts change)) (fault.Absent change.target) none))
  raised records change false (Some kept) is none =
      let new = ap (age_in version) (get-new records change.target (modified change kept)) in
      omega (arith, new, raises change kept)

  raised-in : (records : finite.FinMap name_cmp V) (change : Change) → deletes change ≡ false →
      fault_by (option_map held_of (finite.get records change.target)) change ≡ None →
      age_in version (finite.get records change.target)
      < age_in version (finite.get (records_after inserted modified records change) change.target)
  raised-in records change stays none =
      let found = finite.get records change.target in
      subst (λ (deleting : Bool). age_in version found
      < age_in version (finite.get (made_by records change (inserts change) deleting found) change.target))
      (sym stays) (raised records change (inserts change) found refl none)

abbrev made_of : Bool → CellValue → Change → CellValue
made_of b cell change =
    if b
    then record cell { features = records_after inserted_feature modified_feature cell.features change }
    else record cell { vectors = records_after inserted_vector modified_vector cell.vectors change }

older-by : (b : Bool) (cell : CellValue) (change : Change) → deletes change ≡ false →
    fault_by (if b then option_map held_feature (finite.get cell.features change.target)
    else option_map held_vector (finite.get cell.vectors change.target)) change ≡ None →
    age_by b cell change.target < age_by b (made_of b cell change) change.target
older-by true cell change stays none =
    raised-in (λ (feature : Feature). feature.version) held_feature inserted_feature modified_feature (λ change kept. refl)
    cell.features change stays none
older-by false cell change stays none =
    raised-in (λ (vector : Vector). vector.version) held_vector inserted_vector modified_vector (λ change kept. refl)
    cell.vectors change stays none

-- no record gets younger, and the one that is changed gets older
abbrev Ages : CellValue → CellValue → Change → Name → Type 0
Ages cell next change name =
    (age cell name ≤ age next name) × (change.target ≡ name → age cell name < age next name)

ages-one : (cell : CellValue) (change : Change) (name : Name) → deletes change ≡ false → fault_of cell change ≡ None →
    Ages cell (cell_after cell change) change name
ages-one cell change name stays none = by (eq_by_cmp name_cmp name change.target) refl
  where
    older : change.target ≡ name → age cell name < age (cell_after cell change) name
    older same =
        subst (λ (n : Name). age cell n < age (cell_after cell change) n) same
        (older-by (is_feature change.target) cell change stays none)

    by : (b : Bool) → eq_by_cmp name_cmp name change.target ≡ b → Ages cell (cell_after cell change) change name
    by true same = (omega (arith, older (sym (same_name name change.target same))), older)
    by false apart =
        let same = cell_after-others cell change name apart in
        let alike : age (cell_after cell change) name ≡ age cell name
        = λ i. if is_feature name then feature_age (same.feature i) else vector_age (same.vector i) in
        (omega (arith, alike), older)

-- ---- changes, one after the other

abbrev targets : List Change → List Name
targets changes = map (λ (change : Change). change.target) changes

alone : (x y : Name) → Contains (x ∷ []) y → x ≡ y
alone x y (zero, below, at) = at
alone x y (suc k, below, at) = absurd (omega arith)

ages : (cell after : CellValue) (changes : List Change) (name : Name) → delete_none changes ≡ true →
    folded cell changes ≡ Ok after →
    (age cell name ≤ age after name) × (Contains (targets changes) name → age cell name < age after name)
unfolding folded
ages cell after [] name stay e =
    let same = ap (λ (x : CellValue). age x name) (ok_is e) in
    (omega (arith, same), λ there. absurd (let below = there.1 in omega arith))
ages cell after (change ∷ rest) name stay e =
    let parts = and_parts (not (deletes change)) (delete_none rest) stay in
    let b = bind-ok (unless (option_map of_build.Change (fault_of cell change)) (cell_after cell change)) _ after e in
    let u = unless-ok of_build.Change (fault_of cell change) (cell_after cell change) b.0 b.1 in
    let one = subst (λ (x : CellValue). Ages cell x change name) u.1
    (ages-one cell change name (not-true _ parts.0) u.0) in
    let later = ages b.0 after rest name parts.1 b.2 in (
      omega (arith, one.0, later.0),
      λ there.
          elim (Contains-append_cases (change.target ∷ []) (targets rest) name there) [
            | inl here ↦ omega (arith, one.1 (alone change.target name here), later.0)
            | inr behind ↦ omega (arith, one.0, later.1 behind)
          ],
    )

others-by : (b : Bool) (before after : CellValue) (name : Name) → age_by b before name < age_by b after name →
    HasOther before after name
others-by true before after name less = inr (λ same. omega (arith, less, ap feature_age same))
others-by false before after name less = inl (λ same. omega (arith, less, ap vector_age same))

pub named-differ : (chart after : CellValue) (dataset : DatasetValue) (name : Name)
    → built (Some chart) dataset ≡ Ok after →
    delete_none dataset.changes ≡ true → Contains (targets dataset.changes) name → HasOther chart after name
named-differ chart after dataset name made stay there =
    others-by (is_feature name) chart after name
    ((ages (begun (Some chart) dataset.header) after dataset.changes name stay (built-ok (Some chart) dataset after made).0).1
    there)

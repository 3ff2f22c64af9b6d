-- What it says of the parts that a change has no fault.
use Rattle.std.proofs.Common.{◌≡◌, ◌+◌, inl, inr, Bool, true, false, true≢false, not, ◌&&◌, if◌then◌else◌, ◌==◌, length, List, [], ◌∷◌, Option, Some, None, IfSome, refl, sym, ap, ◌∙◌}
use Rattle.std.specs.Option.{is_some, option_map}
use Rattle.std.specs.List.{AllByRecursion}
use Rattle.std.specs.FinMap as map
use Rattle.std.proofs.lemmas.Bool.{eqb-true, not-false, or_cases, and_parts}
use Rattle.chart_model.specs.declared.cell.Vector.{Vector}
use Rattle.chart_model.specs.declared.cell.Feature.{Feature}
use Rattle.chart_model.specs.Cell.{CellValue}
use Rattle.chart_model.specs.Change.{Change, IsChange}
use Rattle.chart_model.specs.declared.record.Pointer.{Pointer}
use Rattle.chart_model.specs.declared.record.Coord.{Coord}
use Rattle.chart_model.specs.declared.record.Related.{Related}
use Rattle.update_apply.specs.declared.judge.HeldRecord.{HeldRecord}
use Rattle.update_apply.specs.Changed.{FitsVector, FitsFeature}
use Rattle.update_apply.specs.Edited.{FitsEach}
use Rattle.update_apply.specs.declared.fault.ChangeFault.{ChangeFault}
use Rattle.update_apply.specs.declared.fault.ChangeFault.TheVariants as fault
use Rattle.chart_model.specs.Answers.{first_of}
use Rattle.update_apply.specs.Fault.{is_feature, held_under, held_vector, held_feature, edit_faults, held_faults, fault_by, fault_of, fits_version, index_fault, modifies, deletes}
use Rattle.update_apply.proofs.Edits.{fits, quiet}

abbrev pub AreNone : List (Option ChangeFault) → Type 0
AreNone faults = AllByRecursion (λ fault. fault ≡ None) faults

first-none : (faults : List (Option ChangeFault)) → first_of faults ≡ None → AreNone faults
first-none [] e = tt
first-none (None ∷ more) e = (refl, first-none more e)
first-none (Some what ∷ more) e = absurd (true≢false (ap is_some e))

module _ (cell : CellValue) (change : Change) (none : fault_of cell change ≡ None) where
  none-held : (held : HeldRecord) → held_under cell change.target ≡ Some held → AreNone (held_faults change held)
  none-held held is = first-none (held_faults change held) (ap (λ o. fault_by o change) (sym is) ∙ none)

  pub none-vector : (held : Vector) → is_feature change.target ≡ false → map.get cell.vectors change.target ≡ Some held → AreNone (held_faults change (held_vector held))
  none-vector held other there =
      none-held (held_vector held)
      (λ i. if other i then option_map held_feature (map.get cell.features change.target) else option_map held_vector (there i))

  pub none-feature : (held : Feature) → is_feature change.target ≡ true → map.get cell.features change.target ≡ Some held → AreNone (held_faults change (held_feature held))
  none-feature held so there =
      none-held (held_feature held)
      (λ i. if so i then option_map held_feature (there i) else option_map held_vector (map.get cell.vectors change.target))

-- and of the edits of a modification
pub none-edits : (change : Change) (held : HeldRecord) → AreNone (held_faults change held) → modifies change ≡ true → AreNone (edit_faults change held)
none-edits change held none so =
    first-none (edit_faults change held) (ap (λ (b : Bool). if b then first_of (edit_faults change held) else None) (sym so) ∙ none.1.1.1.0)

-- a modification that has no fault
module _ (change : Change) (edit : IsChange change) (held : HeldRecord) (none : fault_by (Some held) change ≡ None) (so : change.ruin ≡ 3) where
  pub none-of-edits : AreNone (edit_faults change held)
  none-of-edits = none-edits change held (first-none (held_faults change held) none) (ap (λ n. n == 3) so)

  pub fits-pointers : (items : List Pointer) → held.pointers ≡ length items → FitsEach change.pointer_edit change.pointers items
  fits-pointers items many =
      fits change.target change.pointer_edit change.pointers items edit.pointer_edit
      (ap (index_fault change.target change.pointer_edit) (sym many) ∙ none-of-edits.1.1.1.1.1.1.0) none-of-edits.1.1.1.0

  pub fits-coords : (items : List Coord) → held.coords ≡ length items → FitsEach change.coord_edit change.coords items
  fits-coords items many =
      fits change.target change.coord_edit change.coords items edit.coord_edit
      (ap (index_fault change.target change.coord_edit) (sym many) ∙ none-of-edits.1.1.1.1.1.1.1.0) none-of-edits.1.1.1.1.0

  pub fits-related : (items : List Related) → held.related ≡ length items → FitsEach change.related_edit change.related items
  fits-related items many =
      fits change.target change.related_edit change.related items edit.related_edit
      (ap (index_fault change.target change.related_edit) (sym many) ∙ none-of-edits.1.1.1.1.1.1.1.1.0) none-of-edits.1.1.1.1.1.0

  pub follows : change.version ≡ held.version + 1
  follows =
      let version = (first-none (held_faults change held) none).1.0 in
      let fits : fits_version change held.version ≡ true = not-false (fits_version change held.version) (quiet (not (fits_version change held.version)) (fault.Version change.target held.version change.version) version) in
      elim (or_cases (change.version == held.version + 1) (deletes change && (change.version == held.version)) fits) [
        | inl next ↦ eqb-true change.version (held.version + 1) next
        | inr deleted ↦ absurd (true≢false (sym (and_parts (deletes change) (change.version == held.version) deleted).0 ∙ ap (λ n. n == 2) so))
      ]

-- a record whose modification has no fault is fit for it
pub vector-fits : (change : Change) → IsChange change → change.ruin ≡ 3 → (found : Option Vector) → fault_by (option_map held_vector found) change ≡ None → IfSome found (FitsVector change)
vector-fits change edit so None none = tt
vector-fits change edit so (Some vector) none = record {
  version = follows change edit (held_vector vector) none so;
  pointers = fits-pointers change edit (held_vector vector) none so vector.pointers refl;
  coords = fits-coords change edit (held_vector vector) none so vector.coords refl;
}

pub feature-fits : (change : Change) → IsChange change → change.ruin ≡ 3 → (found : Option Feature) → fault_by (option_map held_feature found) change ≡ None → IfSome found (FitsFeature change)
feature-fits change edit so None none = tt
feature-fits change edit so (Some feature) none = record {
  version = follows change edit (held_feature feature) none so;
  pointers = fits-pointers change edit (held_feature feature) none so feature.pointers refl;
  related = fits-related change edit (held_feature feature) none so feature.related refl;
}

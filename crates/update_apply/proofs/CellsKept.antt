-- A change without a fault keeps what holds of every cell.
use Rattle.std.proofs.Common.{◌≡◌, ⊎_elim, Bool, true, false, if◌then◌else◌, ◌==◌, Option, Some, None, IfSome, ℕ, arith, refl, subst, ◌≢◌, Result, Ok, Err, OnOk, OnErr, sym, ap, ◌∙◌}
use Rattle.std.specs.Int.{IsInRange}
use Rattle.std.specs.declared.alloc.AllocError.{AllocError}
use Rattle.std.specs.FinMap as map
use Rattle.std.proofs.lemmas.Bool.{eqb-true, eqb-false, eq-eqb, ne_eqb}
use Rattle.chart_model.specs.declared.name.Name.{Name}
use Rattle.chart_model.specs.declared.cell.Vector.{Vector}
use Rattle.chart_model.specs.declared.cell.Feature.{Feature}
use Rattle.chart_model.specs.Cell.{CellValue, IsCell, IsVector, IsFeature}
use Rattle.chart_model.specs.Change.{Change, IsChange}
use Rattle.chart_model.specs.Record.{IsVectorName, IsFeatureName}
use Rattle.chart_model.specs.Names.{name_cmp, edited_at, edited_in}
use Rattle.chart_model.proofs.Names.{name_cmp-total, name_cmp-IsAntisymmetric}
use Rattle.chart_model.proofs.Maps.{Each, each-insert, each-remove}
use Rattle.update_apply.specs.Changed.{inserted_vector, inserted_feature, modified_vector, modified_feature}
use Rattle.update_apply.specs.Changed.{records_after, cell_after}
use Rattle.update_apply.specs.Fault.{is_feature, inserts, deletes, modifies, fault_of, held_vector}
use Rattle.update_apply.proofs.Texts.{texts-new, texts-set}
use Rattle.update_apply.proofs.Alike.{all-list_after, coords-list_after}
use Rattle.update_apply.proofs.NoFault.{none-vector, none-edits}

third : (n : ℕ) → IsInRange 1 3 n → n == 1 ≡ false → n == 2 ≡ false → n == 3 ≡ true
third n range one two = eq-eqb n 3 (omega (arith, range, eqb-false n 1 one, eqb-false n 2 two))

-- a fact of each record, where the new one has it
records_after-each : {V : Type 0} (inserted : Change → V) (modified : Change → V → V) (P : Name → V → Type 0)
    (records : map.FinMap name_cmp V) (change : Change)
    → IsInRange 1 3 change.ruin → Each P records
    → (inserts change ≡ true → P change.target (inserted change))
    → ((held : V) → modifies change ≡ true → map.get records change.target ≡ Some held → P change.target (modified change held))
    → Each P (records_after inserted modified records change)
records_after-each {V} inserted modified P records change range each new old =
    let name = change.target in
    elim (inserts change) as (λ b. inserts change ≡ b → Each P (if b then map.insert records name (inserted change)
    else if deletes change then map.remove records name else edited_in (modified change) records name)) [
      | true ↦ λ e. each-insert name_cmp-total name_cmp-IsAntisymmetric P records name (inserted change) each (new e)
      | false ↦ λ e. elim (deletes change) as (λ b. deletes change ≡ b → Each P (if b then map.remove records name
          else edited_in (modified change) records name)) [
            | true ↦ λ d. each-remove name_cmp-total P records name each
            | false ↦ λ d. elim (map.get records name) as (λ (o : Option V). map.get records name ≡ o → Each P (edited_at (modified change) records name o)) [
              | None ↦ λ absent. each
              | Some held ↦ λ there. each-insert name_cmp-total name_cmp-IsAntisymmetric P records name (modified change held) each (old held (third change.ruin range e d) there)
            ] refl
          ] refl
    ] refl

-- the fact of the record that is kept
held-has : {V : Type 0} (P : Name → V → Type 0) (records : map.FinMap name_cmp V) (name : Name) (held : V) → Each P records → map.get records name ≡ Some held → P name held
held-has {V} P records name held each there = subst (λ (o : Option V). IfSome o (P name)) there (each name)

module _ (cell : CellValue) (change : Change) (is : IsCell cell) (has : IsChange change) (none : fault_of cell change ≡ None) where
  vectors-held : is_feature change.target ≡ false → IsVectorName change.target
      → Each IsVector (records_after inserted_vector modified_vector cell.vectors change)
  vectors-held other named =
      records_after-each inserted_vector modified_vector IsVector cell.vectors change has.ruin is.vectors
      (λ new. record { named = named; attrs = texts-new change.attrs has.attrs; coords = has.coords })
      (λ held so there.
      let old = held-has IsVector cell.vectors change.target held is.vectors there in
      let edits = none-edits change (held_vector held) (none-vector cell change none held other there) so in
      record {
        named = named;
        attrs = texts-set held.attrs change.attrs has.attrs old.attrs;
        coords =
            coords-list_after change.target change.coord_edit (held_vector held) change.coords held.coords refl refl
            edits.1.1.1.1.1.1.1.1.1.0 has.coords old.coords;
      })

  features-held : IsFeatureName change.target
      → Each IsFeature (records_after inserted_feature modified_feature cell.features change)
  features-held named =
      let plain = has.feature named in
      records_after-each inserted_feature modified_feature IsFeature cell.features change has.ruin is.features
      (λ new. record { named = named; prim = (has.insert named (eqb-true change.ruin 1 new)).prim; attrs = texts-new change.attrs has.attrs; topi = plain.topi })
      (λ held so there.
      let old = held-has IsFeature cell.features change.target held is.features there in
      record {
        named = named;
        prim = old.prim;
        attrs = texts-set held.attrs change.attrs has.attrs old.attrs;
        topi =
            all-list_after (λ pointer. pointer.topi ≡ 255) change.pointer_edit change.pointers held.pointers
            plain.topi old.topi;
      })

  vector-name : is_feature change.target ≡ false → IsVectorName change.target
  vector-name other = ⊎_elim (λ (v : IsVectorName change.target). v) (λ (f : IsFeatureName change.target). absurd (eqb-false change.target.rcnm 100 other f)) has.target

  pub cells-held : IsCell (cell_after cell change)
  cells-held =
      elim (is_feature change.target) as (λ b. is_feature change.target ≡ b → IsCell (if b
      then record cell { features = records_after inserted_feature modified_feature cell.features change }
      else record cell { vectors = records_after inserted_vector modified_vector cell.vectors change })) [
        | true ↦ λ so. record { header = is.header; vectors = is.vectors; features = features-held (eqb-true change.target.rcnm 100 so) }
        | false ↦ λ other. record { header = is.header; vectors = vectors-held other (vector-name other); features = is.features }
      ] refl

-- the cell with its records of one kind changed, or as they were
pub features-after : (cell : CellValue) (change : Change) (after : map.FinMap name_cmp Feature)
    (r : Result (Unit {0}) AllocError)
    → change.target.rcnm ≡ 100
    → IsCell cell → IsChange change → fault_of cell change ≡ None
    → OnOk r (after ≡ records_after inserted_feature modified_feature cell.features change)
    → OnErr r (after ≡ cell.features) → IsCell (record cell { features = after })
features-after cell change after (Ok done) so is has none ok err =
    subst IsCell
    (sym (ap (λ features. record cell { features = features }) ok
    ∙ ap (λ (b : Bool).
    if b then record cell { features = records_after inserted_feature modified_feature cell.features change }
    else record cell { vectors = records_after inserted_vector modified_vector cell.vectors change })
    (sym (eq-eqb change.target.rcnm 100 so))))
    (cells-held cell change is has none)
features-after cell change after (Err e) so is has none ok err =
    subst (λ features. IsCell (record cell { features = features })) (sym err) is

pub vectors-after : (cell : CellValue) (change : Change) (after : map.FinMap name_cmp Vector)
    (r : Result (Unit {0}) AllocError)
    → change.target.rcnm ≢ 100
    → IsCell cell → IsChange change → fault_of cell change ≡ None
    → OnOk r (after ≡ records_after inserted_vector modified_vector cell.vectors change)
    → OnErr r (after ≡ cell.vectors) → IsCell (record cell { vectors = after })
vectors-after cell change after (Ok done) other is has none ok err =
    subst IsCell
    (sym (ap (λ vectors. record cell { vectors = vectors }) ok
    ∙ ap (λ (b : Bool).
    if b then record cell { features = records_after inserted_feature modified_feature cell.features change }
    else record cell { vectors = records_after inserted_vector modified_vector cell.vectors change })
    (sym (ne_eqb change.target.rcnm 100 other))))
    (cells-held cell change is has none)
vectors-after cell change after (Err e) other is has none ok err =
    subst (λ vectors. IsCell (record cell { vectors = vectors })) (sym err) is

-- Where a change has no fault one cell follows, and no other.
use Rattle.std.proofs.Common.{◌≡◌, ⊎_elim, Bool, true, false, true≢false, not, if◌then◌else◌, ◌==◌, Option, Some, None, ℕ, arith, refl, sym, ap, ◌∙◌}
use Rattle.std.specs.Option.{option_map}
use Rattle.std.specs.Int.{IsInRange}
use Rattle.std.specs.FinMap as map
use Rattle.std.proofs.lemmas.Bool.{eqb-true, eqb-false}
use Rattle.chart_model.specs.declared.cell.Vector.{Vector}
use Rattle.chart_model.specs.declared.cell.Feature.{Feature}
use Rattle.chart_model.specs.Cell.{CellValue}
use Rattle.chart_model.specs.Change.{Change, IsChange}
use Rattle.chart_model.specs.Record.{IsVectorName, IsFeatureName}
use Rattle.chart_model.specs.Names.{name_cmp, edited_at, edited_in}
use Rattle.update_apply.specs.declared.judge.HeldRecord.{HeldRecord}
use Rattle.update_apply.specs.declared.fault.ChangeFault.TheVariants as fault
use Rattle.update_apply.specs.Changed.{inserted_vector, inserted_feature, modified_vector, modified_feature}
use Rattle.update_apply.specs.Changed.{records_after, cell_after, IsModifiedVector, IsModifiedFeature, ChangesIn}
use Rattle.update_apply.specs.Changed.{Changes}
use Rattle.update_apply.specs.Fault.{is_feature, inserts, fault_by, fault_of, held_vector, held_feature, held_faults, edit_faults}
use Rattle.update_apply.proofs.Edits.{quiet, is-edited, only-edited}
use Rattle.update_apply.proofs.NoFault.{AreNone, none-vector, none-feature, none-edits}

module _ {V : Type 0} (inserted : Change → V) (modified : Change → V → V) (records : map.FinMap name_cmp V) (change : Change) where
  new-in : change.ruin ≡ 1
      → records_after inserted modified records change ≡ map.insert records change.target (inserted change)
  new-in one =
      ap (λ (n : ℕ). if n == 1 then map.insert records change.target (inserted change)
      else if n == 2 then map.remove records change.target else edited_in (modified change) records change.target) one

  gone-in : change.ruin ≡ 2 → records_after inserted modified records change ≡ map.remove records change.target
  gone-in two =
      ap (λ (n : ℕ). if n == 1 then map.insert records change.target (inserted change)
      else if n == 2 then map.remove records change.target else edited_in (modified change) records change.target) two

  other-in : (held : V) → change.ruin ≡ 3 → map.get records change.target ≡ Some held
      → records_after inserted modified records change ≡ map.insert records change.target (modified change held)
  other-in held three there =
      ap (λ (n : ℕ). if n == 1 then map.insert records change.target (inserted change)
      else if n == 2 then map.remove records change.target else edited_in (modified change) records change.target) three
      ∙ ap (edited_at (modified change) records change.target) there

  module _ (IsModified : Change → V → V → Type 0) where
    changes-in : (held_of : V → HeldRecord)
        → (map.get records change.target ≡ None → not (inserts change) ≡ false)
        → ((held : V) → map.get records change.target ≡ Some held → AreNone (held_faults change (held_of held)))
        → ((held : V) → AreNone (edit_faults change (held_of held)) → IsModified change held (modified change held))
        → ChangesIn inserted IsModified change records (records_after inserted modified records change)
    changes-in held_of absent present is-modified = record {
      insert = λ one. (
        elim (map.get records change.target) as (λ (o : Option V). map.get records change.target ≡ o → o ≡ None) [
          | None ↦ λ e. refl
          | Some held ↦ λ e. absurd (true≢false (sym (ap (λ n. n == 1) one) ∙ quiet _ (fault.Present change.target) (present held e).0))
        ] refl,
        new-in one,
      );
      delete = gone-in;
      modify = λ three. modifies-in three (map.get records change.target) refl;
    }
      where
        modifies-in : change.ruin ≡ 3 → (o : Option V) → map.get records change.target ≡ o
            → (held : V) × (made : V) × (map.get records change.target ≡ Some held) × IsModified change held made
            × (records_after inserted modified records change ≡ map.insert records change.target made)
        modifies-in three None e = absurd (true≢false (ap (λ n. not (n == 1)) (sym three) ∙ absent e))
        modifies-in three (Some held) e =
            (held, modified change held, e, is-modified held (none-edits change (held_of held) (present held e) (ap (λ n. n == 3) three)), other-in held three e)

    only-in : IsInRange 1 3 change.ruin → ((held made : V) → IsModified change held made → made ≡ modified change held)
        → (after : map.FinMap name_cmp V) → ChangesIn inserted IsModified change records after
        → after ≡ records_after inserted modified records change
    only-in range only after is = by (change.ruin == 1) (change.ruin == 2) refl refl
      where
        by : (one two : Bool) → change.ruin == 1 ≡ one → change.ruin == 2 ≡ two
            → after ≡ records_after inserted modified records change
        by true two e d = (is.insert (eqb-true change.ruin 1 e)).1 ∙ sym (new-in (eqb-true change.ruin 1 e))
        by false true e d = is.delete (eqb-true change.ruin 2 d) ∙ sym (gone-in (eqb-true change.ruin 2 d))
        by false false e d =
            let three : change.ruin ≡ 3 = omega (arith, range, eqb-false change.ruin 1 e, eqb-false change.ruin 2 d) in
            let so = is.modify three in
            so.4 ∙ ap (map.insert records change.target) (only so.0 so.1 so.3) ∙ sym (other-in so.0 three so.2)

only-vector : (change : Change) → IsChange change → (held made : Vector) → IsModifiedVector change held made → made ≡ modified_vector change held
only-vector change has held made is =
    let pointers = only-edited change.pointer_edit change.pointers held.pointers made.pointers has.pointer_edit is.pointers in
    let coords = only-edited change.coord_edit change.coords held.coords made.coords has.coord_edit is.coords in
    λ i. record { version = is.version i; attrs = is.attrs i; pointers = pointers i; coords = coords i }

only-feature : (change : Change) → IsChange change → (held made : Feature) → IsModifiedFeature change held made → made ≡ modified_feature change held
only-feature change has held made is =
    let pointers = only-edited change.pointer_edit change.pointers held.pointers made.pointers has.pointer_edit is.pointers in
    let related = only-edited change.related_edit change.related held.related made.related has.related_edit is.related in
    λ i. record { prim = is.prim i; grup = is.grup i; class = is.class i; version = is.version i; foid = is.foid i; attrs = is.attrs i; related = related i; pointers = pointers i }

no-feature : (change : Change) → is_feature change.target ≡ false → IsFeatureName change.target → ⊥
no-feature change other named = eqb-false change.target.rcnm 100 other named

no-vector : (change : Change) → is_feature change.target ≡ true → IsVectorName change.target → ⊥
no-vector change so named = omega (arith, eqb-true change.target.rcnm 100 so, named)

module _ (cell : CellValue) (change : Change) (has : IsChange change) where
  module _ (none : fault_of cell change ≡ None) where
    absent-vector : is_feature change.target ≡ false → map.get cell.vectors change.target ≡ None → not (inserts change) ≡ false
    absent-vector other e =
        quiet _ (fault.Absent change.target)
        ((λ i. fault_by (if sym other i then option_map held_feature (map.get cell.features change.target) else option_map held_vector (sym e i)) change) ∙ none)

    absent-feature : is_feature change.target ≡ true → map.get cell.features change.target ≡ None → not (inserts change) ≡ false
    absent-feature so e =
        quiet _ (fault.Absent change.target)
        ((λ i. fault_by (if sym so i then option_map held_feature (sym e i) else option_map held_vector (map.get cell.vectors change.target)) change) ∙ none)

    vectors-change : is_feature change.target ≡ false
        → ChangesIn inserted_vector IsModifiedVector change cell.vectors
        (records_after inserted_vector modified_vector cell.vectors change)
    vectors-change other =
        changes-in inserted_vector modified_vector cell.vectors change IsModifiedVector held_vector (absent-vector other)
        (λ held there. none-vector cell change none held other there)
        (λ held edits. record {
          version = refl;
          attrs = refl;
          pointers = is-edited change.target change.pointer_edit change.pointers held.pointers has.pointer_edit edits.1.1.1.1.1.1.0;
          coords = is-edited change.target change.coord_edit change.coords held.coords has.coord_edit edits.1.1.1.1.1.1.1.0;
        })

    features-change : is_feature change.target ≡ true
        → ChangesIn inserted_feature IsModifiedFeature change cell.features
        (records_after inserted_feature modified_feature cell.features change)
    features-change so =
        changes-in inserted_feature modified_feature cell.features change IsModifiedFeature held_feature (absent-feature so)
        (λ held there. none-feature cell change none held so there)
        (λ held edits. record {
          prim = refl;
          grup = refl;
          class = refl;
          foid = refl;
          version = refl;
          attrs = refl;
          related = is-edited change.target change.related_edit change.related held.related has.related_edit edits.1.1.1.1.1.1.1.1.0;
          pointers = is-edited change.target change.pointer_edit change.pointers held.pointers has.pointer_edit edits.1.1.1.1.1.1.0;
        })

    pub change-follows : Changes cell change (cell_after cell change)
    change-follows =
        elim (is_feature change.target) as (λ b. is_feature change.target ≡ b → Changes cell change (if b
        then record cell { features = records_after inserted_feature modified_feature cell.features change }
        else record cell { vectors = records_after inserted_vector modified_vector cell.vectors change })) [
          | true ↦ λ so. record { header = refl; vector = λ named. absurd (no-vector change so named); feature = λ named. (features-change so, refl) }
          | false ↦ λ other. record { header = refl; vector = λ named. (vectors-change other, refl); feature = λ named. absurd (no-feature change other named) }
        ] refl

  vector-name : is_feature change.target ≡ false → IsVectorName change.target
  vector-name other = ⊎_elim (λ (v : IsVectorName change.target). v) (λ (f : IsFeatureName change.target). absurd (no-feature change other f)) has.target

  pub no-other-follows : (after : CellValue) → Changes cell change after → after ≡ cell_after cell change
  no-other-follows after is =
      elim (is_feature change.target) as (λ b. is_feature change.target ≡ b → after ≡ (if b
      then record cell { features = records_after inserted_feature modified_feature cell.features change }
      else record cell { vectors = records_after inserted_vector modified_vector cell.vectors change })) [
        | true ↦ λ so.
            let features = is.feature (eqb-true change.target.rcnm 100 so) in
            let are = only-in inserted_feature modified_feature cell.features change IsModifiedFeature has.ruin (only-feature change has) after.features features.0 in
            λ i. record { header = is.header i; vectors = features.1 i; features = are i }
        | false ↦ λ other.
            let vectors = is.vector (vector-name other) in
            let are = only-in inserted_vector modified_vector cell.vectors change IsModifiedVector has.ruin (only-vector change has) after.vectors vectors.0 in
            λ i. record { header = is.header i; vectors = are i; features = vectors.1 i }
      ] refl

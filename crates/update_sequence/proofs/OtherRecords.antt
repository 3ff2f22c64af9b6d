-- Records that no change names.
use Rattle.std.proofs.Common.{◌≡◌, ◌⊎◌, inl, inr, Bool, true, false, cond, if◌then◌else◌, List, [], ◌∷◌, Option, Some, None, Ok}
use Rattle.std.proofs.Common.{refl, sym, ap, ◌∙◌, subst}
use Rattle.std.proofs.lemmas.List.Elements.{Contains-append_left, Contains-append_right, Contains-push}
use Rattle.std.specs.List.{Contains, AllByRecursion}
use Rattle.std.specs.Prelude.{map}
use Rattle.std.specs.Ordering.{eq_by_cmp}
use Rattle.std.specs.FinMap as finite
use Rattle.update_sequence.specs.Others.{HasSame}
use Rattle.chart_model.specs.declared.name.Name.{Name}
use Rattle.chart_model.specs.Cell.{CellValue}
use Rattle.chart_model.specs.Change.{Change}
use Rattle.chart_model.specs.Dataset.{DatasetValue}
use Rattle.chart_model.specs.Names.{name_cmp, edited_at}
use Rattle.chart_model.proofs.Names.{name_cmp-total}
use Rattle.update_apply.specs.Changed.{records_after, cell_after, inserted_vector, inserted_feature, modified_vector}
use Rattle.update_apply.specs.Changed.{modified_feature}
use Rattle.update_apply.specs.Fault.{is_feature, inserts, deletes}
use Rattle.update_sequence.specs.Built.{begun, built}
use Rattle.update_sequence.proofs.Charts.{folded-keeps, built-ok}
use Rattle.update_sequence.proofs.OneName.{same_name}

module _ {V : Type 0} (records : finite.FinMap name_cmp V) (name other : Name) (apart : eq_by_cmp name_cmp other name ≡ false) where
  other-insert : (v : V) → finite.get (finite.insert records name v) other ≡ finite.get records other
  other-insert v =
      finite.get-insert name_cmp-total records name v other
      ∙ ap (λ b. cond b (Some v) (finite.get records other)) apart

  other-remove : finite.get (finite.remove records name) other ≡ finite.get records other
  other-remove =
      finite.get-remove name_cmp-total records name other
      ∙ ap (λ b. cond b None (finite.get records other)) apart

  other-edit : (f : V → V) (found : Option V) → finite.get (edited_at f records name found) other ≡ finite.get records other
  other-edit f None = refl
  other-edit f (Some v) = other-insert (f v)

records_after-others : {V : Type 0} (inserted : Change → V) (modified : Change → V → V)
    (records : finite.FinMap name_cmp V)
    (change : Change) (other : Name) → eq_by_cmp name_cmp other change.target ≡ false →
    finite.get (records_after inserted modified records change) other ≡ finite.get records other
records_after-others {V} inserted modified records change other apart =
    let edit : finite.FinMap name_cmp V = edited_at (modified change) records change.target (finite.get records change.target) in
    elim (inserts change) as (λ b. finite.get (if b then finite.insert records change.target (inserted change)
    else if deletes change then finite.remove records change.target else edit) other ≡ finite.get records other) [
      | true ↦ other-insert records change.target other apart (inserted change)
      | false ↦
          elim (deletes change) as (λ b. finite.get (if b then finite.remove records change.target else edit) other
          ≡ finite.get records other) [
            | true ↦ other-remove records change.target other apart
            | false ↦ other-edit records change.target other apart (modified change) (finite.get records change.target)
          ]
    ]

-- a change of another name leaves the records of a name
pub cell_after-others : (cell : CellValue) (change : Change) (other : Name)
    → eq_by_cmp name_cmp other change.target ≡ false →
    HasSame cell (cell_after cell change) other
cell_after-others cell change other apart =
    elim (is_feature change.target) as (λ b. HasSame cell (if b
    then record cell { features = records_after inserted_feature modified_feature cell.features change }
    else record cell { vectors = records_after inserted_vector modified_vector cell.vectors change }) other) [
      | true ↦ record {
        vector = refl;
        feature = records_after-others inserted_feature modified_feature cell.features change other apart;
      }
      | false ↦ record {
        vector = records_after-others inserted_vector modified_vector cell.vectors change other apart;
        feature = refl;
      }
    ]

-- one of the changes names a record, or none does
named-or-apart : (changes : List Change) (name : Name) → Contains (map (λ (change : Change). change.target) changes) name ⊎
    AllByRecursion (λ (change : Change). eq_by_cmp name_cmp name change.target ≡ false) changes
named-or-apart [] name = inr tt
named-or-apart (change ∷ rest) name = by (eq_by_cmp name_cmp name change.target) refl (named-or-apart rest name)
  where
    by : (b : Bool) → eq_by_cmp name_cmp name change.target ≡ b →
        Contains (map (λ (c : Change). c.target) rest) name ⊎
        AllByRecursion (λ (c : Change). eq_by_cmp name_cmp name c.target ≡ false) rest →
        Contains (map (λ (c : Change). c.target) (change ∷ rest)) name ⊎
        AllByRecursion (λ (c : Change). eq_by_cmp name_cmp name c.target ≡ false) (change ∷ rest)
    by true same later =
        inl (Contains-append_left (change.target ∷ []) (map (λ (c : Change). c.target) rest) name
        (subst (λ (n : Name). Contains (change.target ∷ []) n) (sym (same_name name change.target same))
        (Contains-push [] change.target)))
    by false apart (inl there) =
        inl (Contains-append_right (change.target ∷ []) (map (λ (c : Change). c.target) rest) name there)
    by false apart (inr others) = inr (apart, others)

pub others-stay : (chart after : CellValue) (dataset : DatasetValue) (name : Name) → built (Some chart) dataset ≡ Ok after →
    Contains (map (λ (change : Change). change.target) dataset.changes) name ⊎ HasSame chart after name
others-stay chart after dataset name made =
    elim (named-or-apart dataset.changes name) [
      | inl there ↦ inl there
      | inr others ↦ inr (folded-keeps (λ cell. HasSame chart cell name)
          (λ change. eq_by_cmp name_cmp name change.target ≡ false)
          (λ cell change same apart none. let next = cell_after-others cell change name apart in
          record { vector = next.vector ∙ same.vector; feature = next.feature ∙ same.feature })
          (begun (Some chart) dataset.header) after dataset.changes (record { vector = refl; feature = refl })
          others (built-ok (Some chart) dataset after made).0)
    ]

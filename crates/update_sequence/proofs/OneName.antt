-- Records that are others under one name at most.
use Rattle.std.proofs.Common.{◌≡◌, true, false, true≢false, cond, if◌then◌else◌, Option, Some, None, refl, sym, ap, ◌∙◌}
use Rattle.std.specs.declared.cmp.Ordering.{Ordering}
use Rattle.std.specs.declared.cmp.Ordering.TheVariants.{Less, Equal, Greater}
use Rattle.std.specs.Option.{IsSome, is_some}
use Rattle.std.specs.Ordering.{is_eq, eq_by_cmp}
use Rattle.std.specs.Cmp.{tied_itself}
use Rattle.std.specs.FinMap as map
use Rattle.chart_model.specs.declared.name.Name.{Name}
use Rattle.chart_model.specs.Names.{name_cmp, edited_at}
use Rattle.chart_model.proofs.Names.{name_cmp-total, name_cmp-IsAntisymmetric}
use Rattle.chart_model.specs.Cell.{CellValue}
use Rattle.chart_model.specs.Change.{Change}
use Rattle.update_apply.specs.Changed.{records_after, cell_after, inserted_vector, inserted_feature, modified_vector}
use Rattle.update_apply.specs.Changed.{modified_feature}
use Rattle.update_apply.specs.Fault.{is_feature, inserts, deletes}

tied : (r : Ordering) → is_eq r ≡ true → r ≡ Equal
tied Less e = absurd (true≢false (sym e))
tied Equal e = refl
tied Greater e = absurd (true≢false (sym e))

-- names that tie are one
pub same_name : (q k : Name) → eq_by_cmp name_cmp q k ≡ true → q ≡ k
same_name q k e = name_cmp-IsAntisymmetric q k (tied (name_cmp q k) e)

module _ {V : Type 0} where
  -- all other records stay, and where there was one under the name there is one
  pub record ChangedAt (name : Name) (before after : map.FinMap name_cmp V) : Type 0 where
    pub others : (other : Name) → eq_by_cmp name_cmp other name ≡ false → map.get after other ≡ map.get before other
    pub kept : IsSome (map.get before name) → IsSome (map.get after name)

  pub at-same : (name : Name) (records : map.FinMap name_cmp V) → ChangedAt name records records
  at-same name records = record { others = λ _ _. refl; kept = λ some. some }

  pub get-new : (m : map.FinMap name_cmp V) (k : Name) (v : V) → map.get (map.insert m k v) k ≡ Some v
  get-new m k v = map.get-insert name_cmp-total m k v k ∙ ap (λ r. cond (is_eq r) (Some v) (map.get m k)) (tied_itself name_cmp-total k)

  pub at-insert : (name : Name) (records : map.FinMap name_cmp V) (v : V) → ChangedAt name records (map.insert records name v)
  at-insert name records v = record {
    others = λ other apart. map.get-insert name_cmp-total records name v other ∙ ap (λ b. cond b (Some v) (map.get records other)) apart;
    kept = λ _. ap is_some (get-new records name v);
  }

-- ---- changes

-- a change that deletes nothing leaves all other records, and a record where there was one
records_after-at : {V : Type 0} (inserted : Change → V) (modified : Change → V → V) (records : map.FinMap name_cmp V)
    (change : Change)
    → deletes change ≡ false
    → ChangedAt change.target records (records_after inserted modified records change)
records_after-at {V} inserted modified records change stays =
    let name = change.target in
    let modified_here : Option V → map.FinMap name_cmp V = edited_at (modified change) records name in
    elim (inserts change) as (λ b. ChangedAt name records (if b then map.insert records name (inserted change)
    else if deletes change then map.remove records name else modified_here (map.get records name))) [
      | true ↦ at-insert name records (inserted change)
      | false ↦ rw stays (elim (map.get records name) as (λ (o : Option V). ChangedAt name records (modified_here o)) [
        | None ↦ at-same name records
        | Some kept ↦ at-insert name records (modified change kept)
      ])
    ]

module _ (cell : CellValue) (change : Change) (stays : deletes change ≡ false) where
  pub vectors-at : ChangedAt change.target cell.vectors (cell_after cell change).vectors
  vectors-at =
      elim (is_feature change.target) as (λ b. ChangedAt change.target cell.vectors (if b
      then record cell { features = records_after inserted_feature modified_feature cell.features change }
      else record cell { vectors = records_after inserted_vector modified_vector cell.vectors change }).vectors) [
        | true ↦ at-same change.target cell.vectors
        | false ↦ records_after-at inserted_vector modified_vector cell.vectors change stays
      ]

  pub features-at : ChangedAt change.target cell.features (cell_after cell change).features
  features-at =
      elim (is_feature change.target) as (λ b. ChangedAt change.target cell.features (if b
      then record cell { features = records_after inserted_feature modified_feature cell.features change }
      else record cell { vectors = records_after inserted_vector modified_vector cell.vectors change }).features) [
        | true ↦ records_after-at inserted_feature modified_feature cell.features change stays
        | false ↦ at-same change.target cell.features
      ]

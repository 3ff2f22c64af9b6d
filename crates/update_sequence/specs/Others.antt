-- Records that no change names, and those that one does.
use Rattle.std.specs.Prelude.{◌≡◌, ◌≢◌, ◌⊎◌, Bool, not, List}
use Rattle.std.specs.List.{list_all}
use Rattle.std.specs.FinMap as finite
use Rattle.chart_model.specs.declared.name.Name.{Name}
use Rattle.chart_model.specs.Cell.{CellValue}
use Rattle.chart_model.specs.Change.{Change}
use Rattle.update_apply.specs.Fault.{deletes}

-- the records of a name are as they were
pub record HasSame (before after : CellValue) (name : Name) : Type 0 where
  pub vector : finite.get after.vectors name ≡ finite.get before.vectors name
  pub feature : finite.get after.features name ≡ finite.get before.features name

-- there is another record under a name than there was, or there was none
abbrev pub HasOther : CellValue → CellValue → Name → Type 0
HasOther before after name =
    (finite.get after.vectors name ≢ finite.get before.vectors name)
    ⊎ (finite.get after.features name ≢ finite.get before.features name)

-- no record is deleted
abbrev pub delete_none : List Change → Bool
delete_none changes = list_all (λ change. not (deletes change)) changes

-- A cell after a change of a record.
use Rattle.std.specs.Prelude.{◌≡◌, ◌+◌, if◌then◌else◌, Some, None}
use Rattle.std.specs.Option.{unwrap_or}
use Rattle.std.specs.FinMap as map
use Rattle.chart_model.specs.declared.cell.Vector.{Vector}
use Rattle.chart_model.specs.declared.cell.Feature.{Feature}
use Rattle.chart_model.specs.Attrs.{set_attrs}
use Rattle.chart_model.specs.Cell.{CellValue}
use Rattle.chart_model.specs.Change.{Change}
use Rattle.chart_model.specs.Record.{IsVectorName, IsFeatureName}
use Rattle.chart_model.specs.Names.{name_cmp, edited_in}
use Rattle.chart_model.specs.Codes.{INSERT, DELETE, MODIFY}
use Rattle.update_apply.specs.Edited.{list_after, FitsEach, IsEdited}
use Rattle.update_apply.specs.Fault.{inserts, deletes, is_feature}

-- ---- as a function

-- what an insertion puts
abbrev pub inserted_vector : Change → Vector
inserted_vector change = record {
  version = change.version;
  attrs = set_attrs map.empty change.attrs;
  pointers = change.pointers;
  coords = change.coords;
}

-- every insertion of a feature has an identifier
abbrev pub inserted_feature : Change → Feature
inserted_feature change = record {
  prim = change.prim;
  grup = change.grup;
  class = change.class;
  version = change.version;
  foid = unwrap_or change.foid (record { agen = 0; fidn = 0; fids = 0 });
  attrs = set_attrs map.empty change.attrs;
  related = change.related;
  pointers = change.pointers;
}

-- what a modification makes of a record
abbrev pub modified_vector : Change → Vector → Vector
modified_vector change held = record {
  version = held.version + 1;
  attrs = set_attrs held.attrs change.attrs;
  pointers = list_after change.pointer_edit change.pointers held.pointers;
  coords = list_after change.coord_edit change.coords held.coords;
}

abbrev pub modified_feature : Change → Feature → Feature
modified_feature change held = record {
  prim = held.prim;
  grup = held.grup;
  class = held.class;
  version = held.version + 1;
  foid = held.foid;
  attrs = set_attrs held.attrs change.attrs;
  related = list_after change.related_edit change.related held.related;
  pointers = list_after change.pointer_edit change.pointers held.pointers;
}

-- what a record has to be for that: the version follows, and each edit fits its list
pub record FitsVector (change : Change) (held : Vector) : Type 0 where
  pub version : change.version ≡ held.version + 1
  pub pointers : FitsEach change.pointer_edit change.pointers held.pointers
  pub coords : FitsEach change.coord_edit change.coords held.coords

pub record FitsFeature (change : Change) (held : Feature) : Type 0 where
  pub version : change.version ≡ held.version + 1
  pub pointers : FitsEach change.pointer_edit change.pointers held.pointers
  pub related : FitsEach change.related_edit change.related held.related

module _ {V : Type 0} (inserted : Change → V) (modified : Change → V → V) where
  -- a record is put, is taken out, or is modified where there is one
  abbrev pub records_after : map.FinMap name_cmp V → Change → map.FinMap name_cmp V
  records_after records change =
      if inserts change then map.insert records change.target (inserted change)
      else if deletes change then map.remove records change.target
      else edited_in (modified change) records change.target

-- the cell after the change
abbrev pub cell_after : CellValue → Change → CellValue
cell_after cell change =
    if is_feature change.target
    then record cell { features = records_after inserted_feature modified_feature cell.features change }
    else record cell { vectors = records_after inserted_vector modified_vector cell.vectors change }

-- ---- as a relation

-- the version follows, attributes are set and lists edited
pub record IsModifiedVector (change : Change) (held made : Vector) : Type 0 where
  pub version : made.version ≡ held.version + 1
  pub attrs : made.attrs ≡ set_attrs held.attrs change.attrs
  pub pointers : IsEdited change.pointer_edit change.pointers held.pointers made.pointers
  pub coords : IsEdited change.coord_edit change.coords held.coords made.coords

-- the same of a feature, which keeps what it is
pub record IsModifiedFeature (change : Change) (held made : Feature) : Type 0 where
  pub prim : made.prim ≡ held.prim
  pub grup : made.grup ≡ held.grup
  pub class : made.class ≡ held.class
  pub foid : made.foid ≡ held.foid
  pub version : made.version ≡ held.version + 1
  pub attrs : made.attrs ≡ set_attrs held.attrs change.attrs
  pub related : IsEdited change.related_edit change.related held.related made.related
  pub pointers : IsEdited change.pointer_edit change.pointers held.pointers made.pointers

-- a record is new, is taken out, or is another under its name; all others stay
pub record ChangesIn {V : Type 0} (inserted : Change → V) (IsModified : Change → V → V → Type 0) (change : Change)
    (records after : map.FinMap name_cmp V) : Type 0 where
  pub insert : change.ruin ≡ INSERT →
      (map.get records change.target ≡ None) × (after ≡ map.insert records change.target (inserted change))
  pub delete : change.ruin ≡ DELETE → after ≡ map.remove records change.target
  pub modify : change.ruin ≡ MODIFY →
      (held : V) × (made : V) × (map.get records change.target ≡ Some held) × IsModified change held made ×
      (after ≡ map.insert records change.target made)

-- the header and the records of the other kind stay
pub record Changes (cell : CellValue) (change : Change) (after : CellValue) : Type 0 where
  pub header : after.header ≡ cell.header
  pub vector : IsVectorName change.target →
      ChangesIn inserted_vector IsModifiedVector change cell.vectors after.vectors × (after.features ≡ cell.features)
  pub feature : IsFeatureName change.target →
      ChangesIn inserted_feature IsModifiedFeature change cell.features after.features × (after.vectors ≡ cell.vectors)

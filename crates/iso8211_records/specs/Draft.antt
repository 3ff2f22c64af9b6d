-- Data records as they are read: the values of all fields one behind the other, the fields of all records likewise, and
-- where each field and each record stands among them.
use Rattle.std.specs.Prelude.{ℕ, ◌≤◌, List, All, drop, map}
use Rattle.std.specs.List.{slice_range}
use Rattle.iso8211_records.specs.declared.draft.Extent.{Extent}
use Rattle.iso8211_records.specs.declared.record.RawField.{RawField}
use Rattle.iso8211_records.specs.declared.value.Value.{Value}

-- what stands there in a list
abbrev pub part : {A : Type 0} → List A → Extent → List A
part all extent = slice_range all extent.from extent.to

-- it ends at or behind its beginning, and before the end of a list of so many
abbrev pub IsExtent : ℕ → Extent → Type 0
IsExtent count extent = (extent.from ≤ extent.to) × (extent.to ≤ count)

abbrev pub AreExtents : ℕ → List Extent → Type 0
AreExtents count extents = All (IsExtent count) extents

-- a field: its tag, and where its values stand
abbrev pub FieldExtent : Type 0
FieldExtent = List ℕ × Extent

abbrev pub AreFieldExtents : ℕ → List FieldExtent → Type 0
AreFieldExtents count extents = All (λ one. IsExtent count one.1) extents

abbrev pub field_of : List Value → FieldExtent → RawField
field_of values one = record { tag = one.0; values = part values one.1 }

abbrev pub fields_in : List FieldExtent → List Value → List RawField
fields_in extents values = map (field_of values) extents

-- the records that are ended, the fields of the one that isn't yet, and the values of its field that isn't yet
pub record DraftValue : Type 0 where
  pub records : List (List RawField)
  pub begun : List RawField
  pub values : List Value

-- the records of these fields and values, where the record that isn't ended yet begins at one place among the fields,
-- and the field that isn't at another among the values
abbrev pub draft_value : List Extent → ℕ → List RawField → ℕ → List Value → DraftValue
draft_value extents fields_from fields values_from values = record {
  records = map (part fields) extents;
  begun = drop fields_from fields;
  values = drop values_from values;
}

-- What the subfields of a file's records read as, by the layouts of its fields.
use Rattle.std.specs.Prelude.{ℕ, suc, Bool, if◌then◌else◌, List, [], ◌∷◌, codes, Option, Result, Ok}
use Rattle.std.specs.List.{list_any}
use Rattle.std.specs.Str.{bytes_eq}
use Rattle.chart_model.specs.Answers.{◌>>=◌, or_fault_as}
use Rattle.iso8211_formats.specs.Layout.{Layout}
use Rattle.iso8211_records.specs.declared.record.RawField.{RawField}
use Rattle.iso8211_records.specs.declared.value.Value.{Value}
use Rattle.s57_subfields.specs.declared.fault.FieldFault.{FieldFault}
use Rattle.s57_subfields.specs.declared.fault.FieldFault.TheVariants as of_field
use Rattle.s57_subfields.specs.RowValues.{fields_in}
use Rattle.s57_subfields.specs.Places.{subfield_of}
use Rattle.s57_subfields.specs.Columns.{once_in}
use Rattle.s57_subfields.specs.Number.{number_up_to}
use Rattle.s57_subfields.specs.Texts.{nine_digits, eight_bytes, data_set_name, key_in}
use Rattle.s57_fields.specs.Foid.{foid_row, foid_of}
use Rattle.s57_fields.specs.Attributes.{attribute_row, attributes_in}
use Rattle.s57_fields.specs.Coordinates.{coordinates_in, sg2d_row, sg3d_row}
use Rattle.s57_fields.specs.Ffpt.{ffpt_row, related_in}
use Rattle.s57_fields.specs.Pointers as pointers
use Rattle.chart_model.specs.declared.record.Pointer.{Pointer}
use Rattle.chart_model.specs.declared.record.Coord.{Coord}
use Rattle.s57_records.specs.declared.fault.DatasetFault.{DatasetFault}
use Rattle.s57_records.specs.declared.fault.DatasetFault.TheVariants.{MissingField, Value as BadValue, NoMemory}
use Rattle.s57_records.specs.Subfields.{Subfields}

-- a field's fault as one of the data set
abbrev pub fault_of : FieldFault → DatasetFault
fault_of (of_field.MissingField n tag) = MissingField n tag
fault_of (of_field.Value n label) = BadValue n label
fault_of of_field.NoMemory = NoMemory

-- what is read, or its fault as one of the data set
abbrev pub or_dataset_fault : {A : Type 0} → Result A FieldFault → Result A DatasetFault
or_dataset_fault read = or_fault_as fault_of read

-- the layouts of a file's fields, by their tags
abbrev pub Layouts : Type 0
Layouts = List ℕ → Option Layout

abbrev pub has_field : List RawField → List ℕ → Bool
has_field fields tag = list_any (λ field. bytes_eq field.tag tag) fields

-- VRPT in a vector record, and FSPT in a feature
abbrev pub pointers_in : Layouts → ℕ → List RawField → List ℕ → Result (List Pointer) FieldFault
pointers_in layouts n fields tag =
    if bytes_eq tag (codes "VRPT") then pointers.pointers_in (pointers.vrpt_row (layouts tag)) (fields_in n tag fields)
    else pointers.pointers_in (pointers.fspt_row (layouts tag)) (fields_in n tag fields)

-- SG2D, and SG3D with depths
abbrev pub coords_in : Layouts → ℕ → List RawField → List ℕ → Result (List Coord) FieldFault
coords_in layouts n fields tag =
    if bytes_eq tag (codes "SG2D") then coordinates_in (sg2d_row (layouts tag)) (fields_in n tag fields)
    else coordinates_in (sg3d_row (layouts tag)) (fields_in n tag fields)

-- what stands once under a tag and a label
abbrev pub under : {A : Type 0} →
    (Value → Option A) → Layouts → ℕ → List RawField → List ℕ → List ℕ → Result A DatasetFault
under read layouts n fields tag label =
    or_dataset_fault (once_in read (fields_in n tag fields) (subfield_of (layouts tag) label))

-- the key in a file's name that stands so
abbrev pub key_under : Layouts → ℕ → List RawField → List ℕ → List ℕ → Result (List ℕ) DatasetFault
key_under layouts n fields tag label = do
  name ← under data_set_name layouts n fields tag label
  Ok (key_in name)

-- the data record of this number
abbrev pub subfields_of : Layouts → ℕ → List RawField → Subfields
subfields_of layouts n fields = record {
  has = has_field fields;
  number = λ tag label most. under (number_up_to most) layouts n fields tag label;
  digits = under nine_digits layouts n fields;
  key = key_under layouts n fields;
  date = under eight_bytes layouts n fields;
  attrs = λ tag. or_dataset_fault (attributes_in (attribute_row (layouts tag)) (fields_in n tag fields));
  pointers = λ tag. or_dataset_fault (pointers_in layouts n fields tag);
  coords = λ tag. or_dataset_fault (coords_in layouts n fields tag);
  related = λ tag. or_dataset_fault (related_in (ffpt_row (layouts tag)) (fields_in n tag fields));
  foid = or_dataset_fault (foid_of (foid_row (layouts (codes "FOID"))) (fields_in n (codes "FOID") fields));
}

-- each data record, from this number on
abbrev pub all_subfields : Layouts → ℕ → List (List RawField) → List Subfields
all_subfields layouts n [] = []
all_subfields layouts n (fields ∷ records) = subfields_of layouts n fields ∷ all_subfields layouts (suc n) records

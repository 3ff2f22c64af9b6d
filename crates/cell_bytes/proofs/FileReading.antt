-- A written file is a record file with the records that its cell stands for.
use Rattle.std.proofs.Common.{◌≡◌, ℕ, ◌≤◌, Bool, true, List, [], ◌∷◌, ◌++◌, map, Some, refl, sym, subst, codes}
use Rattle.std.specs.Bool.{MatchBool}
use Rattle.std.specs.List.{AllByRecursion, flat_map}
use Rattle.std.specs.FinMap as finite
use Rattle.chart_model.specs.declared.name.Name.{Name}
use Rattle.chart_model.specs.declared.cell.Vector.{Vector}
use Rattle.chart_model.specs.declared.cell.Feature.{Feature}
use Rattle.chart_model.specs.Cell.{CellValue}
use Rattle.chart_model.specs.Codes.{FIELD_TERMINATOR}
use Rattle.iso8211_leader.specs.Leader.{Frame}
use Rattle.iso8211_leader.specs.declared.entry.Entry.{Entry}
use Rattle.iso8211_formats.specs.Layout.{Layout}
use Rattle.iso8211_records.specs.declared.record.RawField.{RawField}
use Rattle.iso8211_records.specs.declared.value.Value.{Value}
use Rattle.iso8211_records.specs.Kinds.{layout_at}
use Rattle.iso8211_records.specs.Tags.{is_listed}
use Rattle.iso8211_records.specs.Spelling.{IsFieldText, formats_in}
use Rattle.iso8211_records.specs.Record.{AreDataRecords, AreFieldsOf, HasValues, IsDataRecord, IsDescriptiveRecord, IsFieldOf, field_bytes}
use Rattle.iso8211_records.specs.RecordFile.{IsRecordFile}
use Rattle.cell_bytes.specs.declared.data_set.Purpose.TheVariants.{NewDataSet}
use Rattle.cell_bytes.specs.Record.{Field, field, list_field}
use Rattle.cell_bytes.specs.DataSet.{data_set_identifier, general_fields, parameter_fields, parameter_text, structure_text}
use Rattle.cell_bytes.specs.Descriptive.{descriptive_record}
use Rattle.cell_bytes.specs.Vector.{attributes, record_identifier, point, sounding, vector_fields, vector_identifier, vector_pointer}
use Rattle.cell_bytes.specs.Feature.{feature_fields, feature_identifier, feature_pointer, object_name, related_object}
use Rattle.cell_bytes.specs.Framing.{HasFields}
use Rattle.cell_bytes.specs.Layouts as layout
use Rattle.cell_bytes.specs.FieldValues.{attribute_values, feature_identifier_values, feature_pointer_values, object_values}
use Rattle.cell_bytes.specs.FieldValues.{point_values, related_values, sounding_values, vector_identifier_values}
use Rattle.cell_bytes.specs.FieldValues.{vector_pointer_values}
use Rattle.cell_bytes.specs.RecordsRead.{IsCellInRange, IsFeatureEntryInRange, IsVectorInRange, feature_read, general_read}
use Rattle.cell_bytes.specs.RecordsRead.{general_values, parameter_values, parameters_read, read_field, read_list}
use Rattle.cell_bytes.specs.RecordsRead.{records_read, structure_values, unread_identifier, vector_read}
use Rattle.cell_bytes.specs.Written.{NumberedRecord, data_records, feature_record, feature_records, file_of, next_number}
use Rattle.cell_bytes.specs.Written.{number_behind, records_from, vector_record, vector_records}
use Rattle.std.specs.Prelude.{Option, None, Ok, nat_lt}
use Rattle.std.proofs.Common.{arith, false, length}
use Rattle.std.proofs.lemmas.Bool.Decides.{nat_tests}
use Rattle.chart_model.specs.Answers.{first_of, unless, when}
use Rattle.cell_bytes.specs.declared.fault.WriteFault.{WriteFault}
use Rattle.cell_bytes.specs.declared.fault.WriteFault.TheVariants.{RecordLong}
use Rattle.cell_bytes.specs.Written.{feature_faults, length_fault, record_fault, vector_faults, write_fault, base_file_of}
use Rattle.cell_bytes.proofs.Headers.{general_short, parameters_short}
use Rattle.cell_bytes.proofs.FieldsRead as again
use Rattle.cell_bytes.proofs.RecordFaults.{feature_length, vector_length}
use Rattle.cell_bytes.proofs.FieldSpellings as spelled

-- ---- the fields of one record

-- each field is read as a tag and values
abbrev AreRead : List Field → List RawField → Type 0
AreRead [] [] = Unit {0}
AreRead (one ∷ more) (raw ∷ raws) = IsFieldOf layout.tags_read layout.layouts one.1 raw one.0 × AreRead more raws
AreRead _ _ = ⊥

read-append : (xs ys : List Field) (vs ws : List RawField) → AreRead xs vs → AreRead ys ws → AreRead (xs ++ ys) (vs ++ ws)
read-append [] ys [] ws first second = second
read-append [] ys (v ∷ vs) ws first second = absurd first
read-append (x ∷ xs) ys [] ws first second = absurd first
read-append (x ∷ xs) ys (v ∷ vs) ws first second = (first.0, read-append xs ys vs ws first.1 second)

record Pair (fields : List Field) (raws : List RawField) : Type 0 where
  is : AreRead fields raws

both : {xs ys : List Field} {vs ws : List RawField} → Pair xs vs → Pair ys ws → Pair (xs ++ ys) (vs ++ ws)
both {xs} {ys} {vs} {ws} first second = record { is = read-append xs ys vs ws first.is second.is }

of_field : (tag text : List ℕ) (values : List Value) (l : Layout) → is_listed layout.tags_read tag ≡ true
    → layout_at layout.layouts tag ≡ Some l → IsFieldText (formats_in l) values text → Pair (field tag text) (read_field tag values)
unfolding field
of_field tag text values l listed at spelled = record {
  is = (
    record {
      tag_is = refl;
      values_are = subst (λ (b : Bool). MatchBool b
          (HasValues layout.layouts (text ++ FIELD_TERMINATOR ∷ []) (record { tag = tag; values = values })) (values ≡ []))
          (sym listed) (l, at, (text, refl, spelled));
    },
    tt,
  );
}

of_list : (tag text : List ℕ) (values : List Value) (l : Layout) → is_listed layout.tags_read tag ≡ true
    → layout_at layout.layouts tag ≡ Some l → IsFieldText (formats_in l) values text
    → Pair (list_field tag text) (read_list tag text values)
unfolding list_field
of_list tag [] values l listed at spelled = record { is = tt }
of_list tag (byte ∷ text) values l listed at spelled = of_field tag (byte ∷ text) values l listed at spelled

of_identifier : (number : ℕ) → Pair (record_identifier number) unread_identifier
unfolding record_identifier field
of_identifier number = record { is = (record { tag_is = refl; values_are = refl }, tt) }

vector_pairs : (number : ℕ) (name : Name) (vector : Vector) → IsVectorInRange (name, vector)
    → Pair (vector_fields number name vector) (vector_read name vector)
unfolding vector_fields vector_read layout.layouts
vector_pairs number name vector range =
    both (both (both (both (both (of_identifier number)
    (of_field (codes "VRID") (vector_identifier name vector.version) (vector_identifier_values name vector.version) layout.VRID refl refl
    (spelled.vector_identifier-spelled name vector.version range.name range.version)))
    (of_list (codes "ATTV") (attributes vector.attrs) (flat_map attribute_values (finite.entries vector.attrs)) layout.ATTRIBUTES refl refl
    (spelled.attributes-spelled vector.attrs range.attrs)))
    (of_list (codes "VRPT") (flat_map vector_pointer vector.pointers) (flat_map vector_pointer_values vector.pointers) layout.VRPT refl refl
    (spelled.vector_pointers-spelled vector.pointers range.pointers)))
    (of_list (codes "SG2D") (flat_map point vector.coords) (flat_map point_values vector.coords) layout.SG2D refl refl
    (spelled.points-spelled vector.coords range.coords)))
    (of_list (codes "SG3D") (flat_map sounding vector.coords) (flat_map sounding_values vector.coords) layout.SG3D refl refl
    (spelled.soundings-spelled vector.coords range.coords))

feature_pairs : (number : ℕ) (name : Name) (feature : Feature) → IsFeatureEntryInRange (name, feature)
    → Pair (feature_fields number name feature) (feature_read name feature)
unfolding feature_fields feature_read layout.layouts
feature_pairs number name feature range =
    both (both (both (both (both (of_identifier number)
    (of_field (codes "FRID") (feature_identifier name feature) (feature_identifier_values name feature) layout.FRID refl refl
    (spelled.feature_identifier-spelled name feature range.name range.numbers)))
    (of_field (codes "FOID") (object_name feature.foid) (object_values feature.foid) layout.FOID refl refl
    (spelled.foid-spelled feature.foid range.foid)))
    (of_list (codes "ATTF") (attributes feature.attrs) (flat_map attribute_values (finite.entries feature.attrs)) layout.ATTRIBUTES refl refl
    (spelled.attributes-spelled feature.attrs range.attrs)))
    (of_list (codes "FFPT") (flat_map related_object feature.related) (flat_map related_values feature.related) layout.FFPT refl refl
    (spelled.related-spelled feature.related range.related)))
    (of_list (codes "FSPT") (flat_map feature_pointer feature.pointers) (flat_map feature_pointer_values feature.pointers) layout.FSPT refl refl
    (spelled.feature_pointers-spelled feature.pointers range.pointers))

general_pairs : (number : ℕ) (cell : CellValue) → IsCellInRange cell → Pair (general_fields number cell) (general_read cell)
unfolding general_fields general_read layout.layouts
general_pairs number cell range =
    both (both (of_identifier number)
    (of_field (codes "DSID") (data_set_identifier NewDataSet cell.header) (general_values NewDataSet cell.header) layout.DSID refl refl
    (spelled.general-spelled cell.header range.header)))
    (of_field (codes "DSSI") (structure_text cell) (structure_values cell) layout.DSSI refl refl (spelled.structure-spelled cell range.counts))

parameter_pairs : (number : ℕ) (cell : CellValue) → IsCellInRange cell
    → Pair (parameter_fields number cell.header.scale) (parameters_read cell.header.scale)
unfolding parameter_fields parameters_read layout.layouts
parameter_pairs number cell range =
    both (of_identifier number)
    (of_field (codes "DSPM") (parameter_text cell.header.scale) (parameter_values cell.header.scale) layout.DSPM refl refl
    (spelled.parameters-spelled cell.header.scale range.header.scale))

-- ---- one record

fields_read : (frame : Frame) (bytes : List ℕ) (entries : List Entry) (raws : List RawField)
    → AreRead (map (λ (e : Entry). (e.tag, field_bytes frame bytes e)) entries) raws
    → AreFieldsOf layout.tags_read layout.layouts frame bytes entries raws
fields_read frame bytes [] [] read = tt
fields_read frame bytes [] (raw ∷ raws) read = absurd read
fields_read frame bytes (entry ∷ entries) [] read = absurd read
fields_read frame bytes (entry ∷ entries) (raw ∷ raws) read = (read.0, fields_read frame bytes entries raws read.1)

data_record : (bytes : List ℕ) (fields : List Field) (raws : List RawField) → HasFields layout.tags_read bytes fields
    → Pair fields raws → IsDataRecord layout.tags_read layout.layouts bytes raws
data_record bytes fields raws has pair = record {
  frame = has.frame;
  entries = has.entries;
  is_record = has.is_record;
  has_fields = fields_read has.frame bytes has.entries raws (subst (λ (fs : List Field). AreRead fs raws) (sym has.named) pair.is);
}

abbrev IsShortVector : Name × Vector → Type 0
IsShortVector entry = length (vector_record entry.0 entry.1 0) ≤ 99999

abbrev IsShortFeature : Name × Feature → Type 0
IsShortFeature entry = length (feature_record entry.0 entry.1 0) ≤ 99999

vector_is : (number : ℕ) (entry : Name × Vector) → IsVectorInRange entry → IsShortVector entry
    → IsDataRecord layout.tags_read layout.layouts (vector_record entry.0 entry.1 number) (vector_read entry.0 entry.1)
vector_is number entry range short =
    data_record _ (vector_fields number entry.0 entry.1) _
    (again.vector_read layout.tags_read number entry.0 entry.1
    (subst (λ (n : ℕ). n ≤ 99999) (vector_length entry.0 entry.1 0 number) short))
    (vector_pairs number entry.0 entry.1 range)

feature_is : (number : ℕ) (entry : Name × Feature) → IsFeatureEntryInRange entry → IsShortFeature entry
    → IsDataRecord layout.tags_read layout.layouts (feature_record entry.0 entry.1 number) (feature_read entry.0 entry.1)
feature_is number entry range short =
    data_record _ (feature_fields number entry.0 entry.1) _
    (again.feature_read layout.tags_read number entry.0 entry.1
    (subst (λ (n : ℕ). n ≤ 99999) (feature_length entry.0 entry.1 0 number) short))
    (feature_pairs number entry.0 entry.1 range)

-- ---- all records

abbrev AllRead : ℕ → List NumberedRecord → List (List RawField) → Type 0
AllRead number [] [] = Unit {0}
AllRead number (record_under ∷ more) (raw ∷ raws) =
    IsDataRecord layout.tags_read layout.layouts (record_under number) raw × AllRead (next_number number) more raws
AllRead number _ _ = ⊥

all-append : (number : ℕ) (xs ys : List NumberedRecord) (vs ws : List (List RawField)) → AllRead number xs vs
    → AllRead (number_behind number xs) ys ws → AllRead number (xs ++ ys) (vs ++ ws)
unfolding number_behind
all-append number [] ys [] ws first second = second
all-append number [] ys (v ∷ vs) ws first second = absurd first
all-append number (x ∷ xs) ys [] ws first second = absurd first
all-append number (x ∷ xs) ys (v ∷ vs) ws first second = (first.0, all-append (next_number number) xs ys vs ws first.1 second)

all_vectors : (number : ℕ) (entries : List (Name × Vector)) → AllByRecursion IsVectorInRange entries
    → AllByRecursion IsShortVector entries
    → AllRead number (map (λ entry. vector_record entry.0 entry.1) entries) (map (λ entry. vector_read entry.0 entry.1) entries)
all_vectors number [] range short = tt
all_vectors number (entry ∷ entries) range short =
    (vector_is number entry range.0 short.0, all_vectors (next_number number) entries range.1 short.1)

all_features : (number : ℕ) (entries : List (Name × Feature)) → AllByRecursion IsFeatureEntryInRange entries
    → AllByRecursion IsShortFeature entries
    → AllRead number (map (λ entry. feature_record entry.0 entry.1) entries) (map (λ entry. feature_read entry.0 entry.1) entries)
all_features number [] range short = tt
all_features number (entry ∷ entries) range short =
    (feature_is number entry range.0 short.0, all_features (next_number number) entries range.1 short.1)

all_records : (number : ℕ) (records : List NumberedRecord) (raws : List (List RawField)) → AllRead number records raws
    → AreDataRecords layout.tags_read layout.layouts (records_from number records) raws
unfolding records_from
all_records number [] [] read = refl
all_records number [] (raw ∷ raws) read = absurd read
all_records number (record_under ∷ more) [] read = absurd read
all_records number (record_under ∷ more) (raw ∷ raws) read =
    (record_under number, records_from (next_number number) more, refl, read.0, all_records (next_number number) more raws read.1)

cell_records : (cell : CellValue) → IsCellInRange cell → AllByRecursion IsShortVector (finite.entries cell.vectors)
    → AllByRecursion IsShortFeature (finite.entries cell.features)
    → AreDataRecords layout.tags_read layout.layouts (records_from 1 (data_records cell)) (records_read cell)
unfolding data_records records_read vector_records feature_records
cell_records cell range short_vectors short_features =
    let all : AllRead 1 (data_records cell) (records_read cell) = (
      data_record _ (general_fields 1 cell) _ (again.general_read layout.tags_read 1 cell (general_short 1 cell range.header.chart range.header.issued)) (general_pairs 1 cell range),
      (
        data_record _ (parameter_fields 2 cell.header.scale) _
            (again.parameters_read layout.tags_read 2 cell.header.scale (parameters_short 2 cell.header.scale)) (parameter_pairs 2 cell range),
        all-append 3 (map (λ entry. vector_record entry.0 entry.1) (finite.entries cell.vectors))
            (map (λ entry. feature_record entry.0 entry.1) (finite.entries cell.features))
            (map (λ entry. vector_read entry.0 entry.1) (finite.entries cell.vectors))
            (map (λ entry. feature_read entry.0 entry.1) (finite.entries cell.features))
            (all_vectors 3 (finite.entries cell.vectors) range.vectors short_vectors)
            (all_features (number_behind 3 (map (λ entry. vector_record entry.0 entry.1) (finite.entries cell.vectors)))
            (finite.entries cell.features) range.features short_features),
      ),
    ) in
    all_records 1 (data_records cell) (records_read cell) all

-- ---- no record is too long

none_first : (xs ys : List (Option WriteFault)) → first_of (xs ++ ys) ≡ None → (first_of xs ≡ None) × (first_of ys ≡ None)
none_first [] ys none = (refl, none)
none_first (None ∷ xs) ys none = none_first xs ys none
none_first (Some fault ∷ xs) ys none = cc

none_head : (x : Option WriteFault) (xs : List (Option WriteFault)) → first_of (x ∷ xs) ≡ None → (x ≡ None) × (first_of xs ≡ None)
none_head None xs none = (refl, none)
none_head (Some fault) xs none = cc

short_by : (n : ℕ) (fault : WriteFault) → when (nat_lt 99999 n) fault ≡ None → n ≤ 99999
short_by n fault none =
    elim (nat_lt 99999 n) as (λ (b : Bool). nat_lt 99999 n ≡ b → when b fault ≡ None → n ≤ 99999) [
      | true ↦ λ e h. cc
      | false ↦ λ e h. grind (arith, nat_tests, e)
    ] refl none

short_record : (name : Name) (record_under : NumberedRecord) → record_fault name record_under ≡ None → length (record_under 0) ≤ 99999
unfolding record_fault
short_record name record_under none = short_by (length (record_under 0)) (RecordLong name (length (record_under 0))) none

short_vectors : (entries : List (Name × Vector))
    → first_of (map (λ entry. record_fault entry.0 (vector_record entry.0 entry.1)) entries) ≡ None
    → AllByRecursion IsShortVector entries
short_vectors [] none = tt
short_vectors (entry ∷ entries) none =
    let parts = none_head (record_fault entry.0 (vector_record entry.0 entry.1))
    (map (λ (e : Name × Vector). record_fault e.0 (vector_record e.0 e.1)) entries) none in
    (short_record entry.0 (vector_record entry.0 entry.1) parts.0, short_vectors entries parts.1)

short_features : (entries : List (Name × Feature))
    → first_of (map (λ entry. record_fault entry.0 (feature_record entry.0 entry.1)) entries) ≡ None
    → AllByRecursion IsShortFeature entries
short_features [] none = tt
short_features (entry ∷ entries) none =
    let parts = none_head (record_fault entry.0 (feature_record entry.0 entry.1))
    (map (λ (e : Name × Feature). record_fault e.0 (feature_record e.0 e.1)) entries) none in
    (short_record entry.0 (feature_record entry.0 entry.1) parts.0, short_features entries parts.1)

written_whole : (cell : CellValue) (file : List ℕ) → base_file_of cell ≡ Ok file → (write_fault cell ≡ None) × (file_of cell ≡ file)
unfolding base_file_of
written_whole cell file whole =
    elim (write_fault cell) as (λ (o : Option WriteFault). write_fault cell ≡ o → unless o (file_of cell) ≡ Ok file
    → (write_fault cell ≡ None) × (file_of cell ≡ file)) [
      | None ↦ λ e h. let same : file_of cell ≡ file = cc in (e, same)
      | Some fault ↦ λ e h. cc
    ] refl whole

file_is : IsDescriptiveRecord layout.tags_read descriptive_record layout.layouts → (cell : CellValue) → IsCellInRange cell
    → write_fault cell ≡ None
    → IsRecordFile layout.tags_read (file_of cell) (record { descriptors = layout.layouts; records = records_read cell })
unfolding file_of write_fault vector_faults feature_faults
file_is described cell range none =
    let two = none_first (feature_faults cell ++ vector_faults cell) (length_fault (file_of cell) ∷ []) none in
    let one = none_first (feature_faults cell) (vector_faults cell) two.0 in
    record {
      first = descriptive_record;
      rest = records_from 1 (data_records cell);
      pieces = refl;
      descriptive = described;
      data_records = cell_records cell range (short_vectors (finite.entries cell.vectors) one.1) (short_features (finite.entries cell.features) one.0);
    }

-- what is written of a cell, where it is written
pub file_read : IsDescriptiveRecord layout.tags_read descriptive_record layout.layouts → (cell : CellValue) (file : List ℕ)
    → IsCellInRange cell → base_file_of cell ≡ Ok file
    → IsRecordFile layout.tags_read file (record { descriptors = layout.layouts; records = records_read cell })
file_read described cell file range whole =
    let parts = written_whole cell file whole in
    subst (λ (l : List ℕ). IsRecordFile layout.tags_read l (record { descriptors = layout.layouts; records = records_read cell }))
    parts.1 (file_is described cell range parts.0)

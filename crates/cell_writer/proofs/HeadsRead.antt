-- What the subfields that stand once in a written record are read as, and which fields a record has.
use Rattle.std.proofs.Common.{◌≡◌, ℕ, ◌≤◌, true, false, List, [], ◌∷◌, ◌++◌, Some, Ok, refl, ap, arith}
use Rattle.std.specs.Prelude.{codes}
use Rattle.std.specs.Str.{bytes_eq}
use Rattle.std.specs.List.{flat_map}
use Rattle.std.specs.FinMap as finite
use Rattle.std.proofs.lemmas.Bool.{le-leb, or_parts}
use Rattle.chart_model.specs.declared.name.Name.{Name}
use Rattle.chart_model.specs.declared.cell.Vector.{Vector}
use Rattle.chart_model.specs.declared.cell.Feature.{Feature}
use Rattle.chart_model.specs.Cell.{CellValue}
use Rattle.iso8211_records.specs.declared.record.RawField.{RawField}
use Rattle.iso8211_records.specs.declared.value.Value.{Value}
use Rattle.iso8211_records.specs.Kinds.{layout_at}
use Rattle.s57_subfields.specs.Columns.{once_in}
use Rattle.s57_subfields.specs.Number.{FOUR_BYTES, ONE_BYTE, TWO_BYTES, natural_up_to, number_up_to}
use Rattle.s57_records.specs.Subfields.{Subfields}
use Rattle.s57_records.specs.LayoutReadings.{has_field, subfields_of}
use Rattle.s57_records.specs.Rows.{checked_structure, scale_of}
use Rattle.s57_records.specs.Dataset.{kind_of}
use Rattle.s57_records.specs.Dataset as kinds
use Rattle.cell_bytes.specs.Feature.{feature_pointer, related_object}
use Rattle.cell_bytes.specs.FieldValues.{IsFeatureInRange, IsNameInRange, IsTwoBytes, attribute_values, feature_pointer_values, natural, point_values, related_values, sounding_values, vector_pointer_values}
use Rattle.cell_bytes.specs.Vector.{attributes, point, sounding, vector_pointer}
use Rattle.cell_bytes.specs.Layouts.{layouts}
use Rattle.cell_bytes.specs.RecordsRead.{IsHeaderInRange, feature_read, general_read, parameters_read, read_list, vector_read}
use Rattle.cell_writer.proofs.HeaderTexts.{date-is_read, key-in, name-is_read, number-is_read}
use Rattle.cell_writer.proofs.RecordFacts.{ReadsFeatureHead, ReadsHeader, ReadsVectorHead}
use Rattle.cell_writer.proofs.InsertedRecords.{ReadsGeneral}

-- a written record as it is read
abbrev pub read_by_layouts : ℕ → List RawField → Subfields
read_by_layouts n fields = subfields_of (layout_at layouts) n fields

number_fits : (most n : ℕ) → n ≤ most → number_up_to most (natural n) ≡ Some n
unfolding number_up_to natural_up_to
number_fits most n le = rw (le-leb n most le) refl

-- ---- which fields a record has

-- a list's field has its own tag alone
list_lacks : (own text : List ℕ) (values : List Value) (tag : List ℕ) → bytes_eq own tag ≡ false
    → has_field (read_list own text values) tag ≡ false
list_lacks own [] values tag apart = refl
list_lacks own (byte ∷ text) values tag apart = rw apart refl

both_lack : (fields more : List RawField) (tag : List ℕ) → has_field fields tag ≡ false → has_field more tag ≡ false
    → has_field (fields ++ more) tag ≡ false
both_lack [] more tag none no_more = no_more
both_lack (field ∷ fields) more tag none no_more =
    let parts = or_parts (bytes_eq field.tag tag) (has_field fields tag) none in
    rw parts.0 (both_lack fields more tag parts.1 no_more)

vector_lacks : (name : Name) (vector : Vector) (tag : List ℕ) → bytes_eq (codes "0001") tag ≡ false
    → bytes_eq (codes "VRID") tag ≡ false → bytes_eq (codes "ATTV") tag ≡ false → bytes_eq (codes "VRPT") tag ≡ false
    → bytes_eq (codes "SG2D") tag ≡ false → bytes_eq (codes "SG3D") tag ≡ false → has_field (vector_read name vector) tag ≡ false
unfolding vector_read
vector_lacks name vector tag identifier head attrs pointers points soundings =
    let attr_list = read_list (codes "ATTV") (attributes vector.attrs) (flat_map attribute_values (finite.entries vector.attrs)) in
    let pointer_list = read_list (codes "VRPT") (flat_map vector_pointer vector.pointers) (flat_map vector_pointer_values vector.pointers) in
    let point_list = read_list (codes "SG2D") (flat_map point vector.coords) (flat_map point_values vector.coords) in
    let sounding_list = read_list (codes "SG3D") (flat_map sounding vector.coords) (flat_map sounding_values vector.coords) in
    rw (identifier, head)
    (both_lack (attr_list ++ pointer_list ++ point_list) sounding_list tag
    (both_lack (attr_list ++ pointer_list) point_list tag
    (both_lack attr_list pointer_list tag (list_lacks _ _ _ tag attrs) (list_lacks _ _ _ tag pointers))
    (list_lacks _ _ _ tag points))
    (list_lacks _ _ _ tag soundings))

feature_lacks : (name : Name) (feature : Feature) (tag : List ℕ) → bytes_eq (codes "0001") tag ≡ false
    → bytes_eq (codes "FRID") tag ≡ false → bytes_eq (codes "FOID") tag ≡ false → bytes_eq (codes "ATTF") tag ≡ false
    → bytes_eq (codes "FFPT") tag ≡ false → bytes_eq (codes "FSPT") tag ≡ false → has_field (feature_read name feature) tag ≡ false
unfolding feature_read
feature_lacks name feature tag identifier head object attrs related pointers =
    let attr_list = read_list (codes "ATTF") (attributes feature.attrs) (flat_map attribute_values (finite.entries feature.attrs)) in
    let related_list = read_list (codes "FFPT") (flat_map related_object feature.related) (flat_map related_values feature.related) in
    let pointer_list = read_list (codes "FSPT") (flat_map feature_pointer feature.pointers) (flat_map feature_pointer_values feature.pointers) in
    rw (identifier, head, object)
    (both_lack (attr_list ++ related_list) pointer_list tag
    (both_lack attr_list related_list tag (list_lacks _ _ _ tag attrs) (list_lacks _ _ _ tag related))
    (list_lacks _ _ _ tag pointers))

-- ---- vectors

pub vector-head : (n : ℕ) (name : Name) (vector : Vector) → IsNameInRange name → IsTwoBytes vector.version
    → ReadsVectorHead (read_by_layouts n (vector_read name vector)) name vector
unfolding vector_read layouts once_in
vector-head n name vector range version = record {
  rcnm = rw (number_fits ONE_BYTE name.rcnm (omega arith)) refl;
  rcid = rw (number_fits FOUR_BYTES name.rcid (omega arith)) refl;
  version = rw (number_fits TWO_BYTES vector.version (omega arith)) refl;
  no_arcs = vector_lacks name vector (codes "ARCC") refl refl refl refl refl refl;
}

vector_has : (name : Name) (vector : Vector) → has_field (vector_read name vector) (codes "VRID") ≡ true
unfolding vector_read
vector_has name vector = refl

pub vector-kind : (n : ℕ) (name : Name) (vector : Vector) → kind_of (read_by_layouts n (vector_read name vector)) ≡ kinds.vector
vector-kind n name vector =
    rw (
      vector_lacks name vector (codes "DSID") refl refl refl refl refl refl,
      vector_lacks name vector (codes "DSPM") refl refl refl refl refl refl,
      vector_has name vector,
    ) refl

-- ---- features

pub feature-head : (n : ℕ) (name : Name) (feature : Feature) → IsNameInRange name → IsFeatureInRange feature
    → ReadsFeatureHead (read_by_layouts n (feature_read name feature)) name feature
unfolding feature_read layouts once_in
feature-head n name feature range numbers = record {
  rcnm = rw (number_fits ONE_BYTE name.rcnm (omega arith)) refl;
  rcid = rw (number_fits FOUR_BYTES name.rcid (omega arith)) refl;
  prim = rw (number_fits ONE_BYTE feature.prim (omega arith)) refl;
  grup = rw (number_fits ONE_BYTE feature.grup (omega arith)) refl;
  class = rw (number_fits TWO_BYTES feature.class (omega arith)) refl;
  version = rw (number_fits TWO_BYTES feature.version (omega arith)) refl;
  identified = refl;
}

feature_has : (name : Name) (feature : Feature) → has_field (feature_read name feature) (codes "FRID") ≡ true
unfolding feature_read
feature_has name feature = refl

pub feature-kind : (n : ℕ) (name : Name) (feature : Feature) → kind_of (read_by_layouts n (feature_read name feature)) ≡ kinds.feature
feature-kind n name feature =
    rw (
      feature_lacks name feature (codes "DSID") refl refl refl refl refl refl,
      feature_lacks name feature (codes "DSPM") refl refl refl refl refl refl,
      feature_lacks name feature (codes "VRID") refl refl refl refl refl refl,
      feature_has name feature,
    ) refl

-- ---- general information and parameters

header_read : (cell : CellValue) → IsHeaderInRange cell.header → ReadsHeader (read_by_layouts 1 (general_read cell)) cell.header
unfolding general_read layouts once_in
header_read cell range = record {
  key = rw (name-is_read cell.header.key range.chart.key) (ap Ok (key-in cell.header.key));
  edition = rw (number-is_read cell.header.edition range.chart.edition.1) refl;
  update = rw (number-is_read cell.header.update range.chart.update) refl;
  issued = rw (date-is_read cell.header.issued range.issued) refl;
  prof = rw (number_fits ONE_BYTE 1 (omega arith)) refl;
  agency = rw (number_fits TWO_BYTES cell.header.agency (omega arith)) refl;
}

scale_read : (scale : ℕ) → scale ≤ FOUR_BYTES → scale_of (read_by_layouts 2 (parameters_read scale)) ≡ Ok scale
unfolding parameters_read layouts once_in scale_of number_up_to natural_up_to
scale_read scale small = rw (number_fits FOUR_BYTES scale small) refl

structure_read : (cell : CellValue) → checked_structure (read_by_layouts 1 (general_read cell)) ≡ Ok tt
unfolding general_read layouts once_in checked_structure number_up_to natural_up_to
structure_read cell = refl

general_has : (cell : CellValue) → has_field (general_read cell) (codes "DSID") ≡ true
unfolding general_read
general_has cell = refl

parameters_kind : (scale : ℕ) → kind_of (read_by_layouts 2 (parameters_read scale)) ≡ kinds.parameters
unfolding parameters_read
parameters_kind scale = refl

pub general-read : (cell : CellValue) → IsHeaderInRange cell.header
    → ReadsGeneral (read_by_layouts 1 (general_read cell)) (read_by_layouts 2 (parameters_read cell.header.scale)) cell.header
general-read cell range = record {
  named = general_has cell;
  some = range.chart.edition.0;
  reads = header_read cell range;
  structure = structure_read cell;
  kind = parameters_kind cell.header.scale;
  scale = scale_read cell.header.scale (omega arith);
}

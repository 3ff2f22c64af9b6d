-- The fields of the records that are written have tags of four bytes, and end with field terminators.
use Rattle.std.proofs.Common.{◌≡◌, ℕ, ◌+◌, ◌<◌, ◌≤◌, List, [], ◌∷◌, ◌++◌, length, refl, arith, length-append, codes}
use Rattle.std.specs.List.{flat_map}
use Rattle.chart_model.specs.declared.name.Name.{Name}
use Rattle.chart_model.specs.declared.cell.Vector.{Vector}
use Rattle.chart_model.specs.declared.cell.Feature.{Feature}
use Rattle.chart_model.specs.Cell.{CellValue}
use Rattle.chart_model.specs.Codes.{FIELD_TERMINATOR}
use Rattle.cell_bytes.specs.declared.data_set.Purpose.TheVariants.{NewDataSet}
use Rattle.cell_bytes.specs.Subfields.{b12}
use Rattle.cell_bytes.specs.Framing.{HasFields}
use Rattle.cell_bytes.specs.Record.{Field, field, field_area, list_field, of_data, record_of}
use Rattle.cell_bytes.specs.Vector.{attributes, record_identifier, point, sounding, vector_fields, vector_identifier, vector_pointer}
use Rattle.cell_bytes.specs.Feature.{feature_fields, feature_identifier, feature_pointer, object_name, related_object}
use Rattle.cell_bytes.specs.DataSet.{data_set_identifier, general_fields, parameter_fields, parameter_text, structure_text}
use Rattle.cell_bytes.specs.Written.{feature_record, vector_record}
use Rattle.cell_bytes.proofs.RecordFaults.{length-of_record}
use Rattle.cell_bytes.proofs.Reading.{Ended, Fit, has_fields}

abbrev AreFields : List Field → Type 0
AreFields [] = Unit {0}
AreFields (one ∷ more) = (length one.0 ≡ 4) × ((text : List ℕ) × (one.1 ≡ text ++ FIELD_TERMINATOR ∷ [])) × AreFields more

AreFields-append : (xs ys : List Field) → AreFields xs → AreFields ys → AreFields (xs ++ ys)
AreFields-append [] ys first second = second
AreFields-append (x ∷ xs) ys first second = (first.0, first.1, AreFields-append xs ys first.2 second)

AreFields-field : (tag text : List ℕ) → length tag ≡ 4 → AreFields (field tag text)
unfolding field
AreFields-field tag text four = (four, (text, refl), tt)

AreFields-list_field : (tag text : List ℕ) → length tag ≡ 4 → AreFields (list_field tag text)
unfolding list_field
AreFields-list_field tag [] four = tt
AreFields-list_field tag (byte ∷ text) four = AreFields-field tag (byte ∷ text) four

AreFields-record_identifier : (number : ℕ) → AreFields (record_identifier number)
unfolding record_identifier
AreFields-record_identifier number = AreFields-field (codes "0001") (b12 number) refl

ended : (fields : List Field) → AreFields fields → Ended fields
ended [] are = tt
ended (one ∷ more) are = (are.1, ended more are.2)

fit : (position : ℕ) (fields : List Field) → AreFields fields → position + length (field_area fields) < 100000 → Fit position fields
unfolding field_area
fit position [] are small = tt
fit position (one ∷ more) are small = (
  are.0,
  omega (arith, small, length-append one.1 (field_area more)),
  fit (position + length one.1) more are.2 (omega (arith, small, length-append one.1 (field_area more))),
)

-- a record of such fields that isn't too long is read as these fields
read_again : (tags : List (List ℕ)) (fields : List Field) → AreFields fields → length (record_of of_data fields) ≤ 99999
    → HasFields tags (record_of of_data fields) fields
read_again tags fields are small =
    has_fields tags fields small (fit 0 fields are (omega (arith, small, length-of_record fields))) (ended fields are)

pub vector_read : (tags : List (List ℕ)) (number : ℕ) (name : Name) (vector : Vector) → length (vector_record name vector number) ≤ 99999
    → HasFields tags (vector_record name vector number) (vector_fields number name vector)
unfolding vector_record vector_fields
vector_read tags number name vector =
    let first = AreFields-append (record_identifier number) (field (codes "VRID") (vector_identifier name vector.version))
    (AreFields-record_identifier number) (AreFields-field (codes "VRID") (vector_identifier name vector.version) refl) in
    let second = AreFields-append _ (list_field (codes "ATTV") (attributes vector.attrs)) first
    (AreFields-list_field (codes "ATTV") (attributes vector.attrs) refl) in
    let third = AreFields-append _ (list_field (codes "VRPT") (flat_map vector_pointer vector.pointers)) second
    (AreFields-list_field (codes "VRPT") (flat_map vector_pointer vector.pointers) refl) in
    let fourth = AreFields-append _ (list_field (codes "SG2D") (flat_map point vector.coords)) third
    (AreFields-list_field (codes "SG2D") (flat_map point vector.coords) refl) in
    read_again tags _ (AreFields-append _ (list_field (codes "SG3D") (flat_map sounding vector.coords)) fourth
    (AreFields-list_field (codes "SG3D") (flat_map sounding vector.coords) refl))

pub feature_read : (tags : List (List ℕ)) (number : ℕ) (name : Name) (feature : Feature) → length (feature_record name feature number) ≤ 99999
    → HasFields tags (feature_record name feature number) (feature_fields number name feature)
unfolding feature_record feature_fields
feature_read tags number name feature =
    let first = AreFields-append (record_identifier number) (field (codes "FRID") (feature_identifier name feature))
    (AreFields-record_identifier number) (AreFields-field (codes "FRID") (feature_identifier name feature) refl) in
    let second = AreFields-append _ (field (codes "FOID") (object_name feature.foid)) first
    (AreFields-field (codes "FOID") (object_name feature.foid) refl) in
    let third = AreFields-append _ (list_field (codes "ATTF") (attributes feature.attrs)) second
    (AreFields-list_field (codes "ATTF") (attributes feature.attrs) refl) in
    let fourth = AreFields-append _ (list_field (codes "FFPT") (flat_map related_object feature.related)) third
    (AreFields-list_field (codes "FFPT") (flat_map related_object feature.related) refl) in
    read_again tags _ (AreFields-append _ (list_field (codes "FSPT") (flat_map feature_pointer feature.pointers)) fourth
    (AreFields-list_field (codes "FSPT") (flat_map feature_pointer feature.pointers) refl))

pub general_read : (tags : List (List ℕ)) (number : ℕ) (cell : CellValue) → length (record_of of_data (general_fields number cell)) ≤ 99999
    → HasFields tags (record_of of_data (general_fields number cell)) (general_fields number cell)
unfolding general_fields
general_read tags number cell =
    let first = AreFields-append (record_identifier number) (field (codes "DSID") (data_set_identifier NewDataSet cell.header))
    (AreFields-record_identifier number) (AreFields-field (codes "DSID") (data_set_identifier NewDataSet cell.header) refl) in
    read_again tags _ (AreFields-append _ (field (codes "DSSI") (structure_text cell)) first
    (AreFields-field (codes "DSSI") (structure_text cell) refl))

pub parameters_read : (tags : List (List ℕ)) (number scale : ℕ) → length (record_of of_data (parameter_fields number scale)) ≤ 99999
    → HasFields tags (record_of of_data (parameter_fields number scale)) (parameter_fields number scale)
unfolding parameter_fields
parameters_read tags number scale =
    read_again tags _ (AreFields-append (record_identifier number) (field (codes "DSPM") (parameter_text scale))
    (AreFields-record_identifier number) (AreFields-field (codes "DSPM") (parameter_text scale) refl))

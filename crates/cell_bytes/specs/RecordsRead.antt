-- The data records of a written file as they are read: tags and values, field by field.
use Rattle.std.specs.Prelude.{◌≡◌, ℕ, pos, codes, List, [], ◌∷◌, ◌++◌, length, map}
use Rattle.std.specs.List.{AllByRecursion, flat_map}
use Rattle.std.specs.FinMap as finite
use Rattle.text_scan.specs.Written.{decimal_of}
use Rattle.chart_model.specs.declared.name.Name.{Name}
use Rattle.chart_model.specs.declared.cell.Vector.{Vector}
use Rattle.chart_model.specs.declared.cell.Feature.{Feature}
use Rattle.chart_model.specs.declared.dataset.Header.{Header}
use Rattle.chart_model.specs.Cell.{CellValue, IsChartHeader}
use Rattle.chart_model.specs.Codes.{ISOLATED_NODE, CONNECTED_NODE, EDGE}
use Rattle.iso8211_records.specs.declared.record.RawField.{RawField}
use Rattle.iso8211_records.specs.declared.value.Value.{Value}
use Rattle.iso8211_records.specs.declared.value.Value.TheVariants.{Text}
use Rattle.cell_bytes.specs.declared.data_set.Purpose.{Purpose}
use Rattle.cell_bytes.specs.declared.data_set.Purpose.TheVariants.{NewDataSet}
use Rattle.cell_bytes.specs.DataSet.{extension, features_in, features_outside}
use Rattle.cell_bytes.specs.DataSet.{purpose_code, vectors_of}
use Rattle.cell_bytes.specs.Feature.{feature_pointer, related_object}
use Rattle.cell_bytes.specs.FieldValues.{IsCoordInRange, IsEntryInRange, IsFeatureInRange, IsFoidInRange, IsFourBytes}
use Rattle.cell_bytes.specs.FieldValues.{IsNameInRange, IsPointerInRange, IsRelatedInRange, IsTwoBytes}
use Rattle.cell_bytes.specs.FieldValues.{attribute_values, feature_identifier_values, feature_pointer_values, natural}
use Rattle.cell_bytes.specs.FieldValues.{object_values, point_values, related_values, sounding_values}
use Rattle.cell_bytes.specs.FieldValues.{vector_identifier_values, vector_pointer_values}
use Rattle.cell_bytes.specs.Vector.{attributes, point, sounding, vector_pointer}

-- a field that is read, and that of a list, which isn't there where the list's text is empty
abbrev pub read_field : List ℕ → List Value → List RawField
read_field tag values = record { tag = tag; values = values } ∷ []

abbrev pub read_list : List ℕ → List ℕ → List Value → List RawField
read_list tag [] values = []
read_list tag (byte ∷ text) values = read_field tag values

-- the record identifier isn't looked at
abbrev pub unread_identifier : List RawField
unread_identifier = read_field (codes "0001") []

-- ---- general information

abbrev pub general_values : Purpose → Header → List Value
general_values purpose header =
    natural 10 ∷ (natural 1 ∷ (natural (purpose_code purpose) ∷ (natural 5
    ∷ (Text (header.key ++ codes "." ++ extension purpose header.update)
    ∷ (Text (decimal_of (pos header.edition)) ∷ (Text (decimal_of (pos header.update))
    ∷ (Text header.issued ∷ (Text header.issued ∷ (Text (codes "03.1")
    ∷ (natural 1 ∷ (Text [] ∷ (Text (codes "2.0") ∷ (natural (purpose_code purpose) ∷ (natural header.agency
    ∷ (Text [] ∷ [])))))))))))))))

abbrev pub structure_values : CellValue → List Value
structure_values cell =
    natural 2 ∷ (natural 1 ∷ (natural 0
    ∷ (natural (features_in cell 300 399) ∷ (natural (features_in cell 500 599)
    ∷ (natural (features_outside cell 300 599) ∷ (natural (features_in cell 400 499)
    ∷ (natural (vectors_of cell ISOLATED_NODE) ∷ (natural (vectors_of cell CONNECTED_NODE)
    ∷ (natural (vectors_of cell EDGE) ∷ (natural 0 ∷ []))))))))))

abbrev pub parameter_values : ℕ → List Value
parameter_values scale =
    natural 20 ∷ (natural 1 ∷ (natural 2 ∷ (natural 1 ∷ (natural 1 ∷ (natural scale
    ∷ (natural 1 ∷ (natural 1 ∷ (natural 1 ∷ (natural 1
    ∷ (natural 10000000 ∷ (natural 10 ∷ (Text [] ∷ []))))))))))))

unfoldable pub general_read : CellValue → List RawField
general_read cell =
    unread_identifier ++ read_field (codes "DSID") (general_values NewDataSet cell.header)
    ++ read_field (codes "DSSI") (structure_values cell)

unfoldable pub parameters_read : ℕ → List RawField
parameters_read scale = unread_identifier ++ read_field (codes "DSPM") (parameter_values scale)

-- ---- vectors and features

unfoldable pub vector_read : Name → Vector → List RawField
vector_read name vector =
    unread_identifier ++ read_field (codes "VRID") (vector_identifier_values name vector.version)
    ++ read_list (codes "ATTV") (attributes vector.attrs) (flat_map attribute_values (finite.entries vector.attrs))
    ++ read_list (codes "VRPT") (flat_map vector_pointer vector.pointers)
    (flat_map vector_pointer_values vector.pointers)
    ++ read_list (codes "SG2D") (flat_map point vector.coords) (flat_map point_values vector.coords)
    ++ read_list (codes "SG3D") (flat_map sounding vector.coords) (flat_map sounding_values vector.coords)

unfoldable pub feature_read : Name → Feature → List RawField
feature_read name feature =
    unread_identifier ++ read_field (codes "FRID") (feature_identifier_values name feature)
    ++ read_field (codes "FOID") (object_values feature.foid)
    ++ read_list (codes "ATTF") (attributes feature.attrs) (flat_map attribute_values (finite.entries feature.attrs))
    ++ read_list (codes "FFPT") (flat_map related_object feature.related) (flat_map related_values feature.related)
    ++ read_list (codes "FSPT") (flat_map feature_pointer feature.pointers)
    (flat_map feature_pointer_values feature.pointers)

-- all data records
unfoldable pub records_read : CellValue → List (List RawField)
records_read cell =
    general_read cell ∷ (parameters_read cell.header.scale
    ∷ (map (λ entry. vector_read entry.0 entry.1) (finite.entries cell.vectors)
    ++ map (λ entry. feature_read entry.0 entry.1) (finite.entries cell.features)))

-- ---- ranges

-- a vector under its name, whose numbers fit their formats
pub record IsVectorInRange (entry : Name × Vector) : Type 0 where
  pub name : IsNameInRange entry.0
  pub version : IsTwoBytes entry.1.version
  pub attrs : AllByRecursion IsEntryInRange (finite.entries entry.1.attrs)
  pub pointers : AllByRecursion IsPointerInRange entry.1.pointers
  pub coords : AllByRecursion IsCoordInRange entry.1.coords

-- the same of a feature
pub record IsFeatureEntryInRange (entry : Name × Feature) : Type 0 where
  pub name : IsNameInRange entry.0
  pub numbers : IsFeatureInRange entry.1
  pub foid : IsFoidInRange entry.1.foid
  pub attrs : AllByRecursion IsEntryInRange (finite.entries entry.1.attrs)
  pub related : AllByRecursion IsRelatedInRange entry.1.related
  pub pointers : AllByRecursion IsPointerInRange entry.1.pointers

-- a chart's header, whose numbers fit their formats
pub record IsHeaderInRange (header : Header) : Type 0 where
  pub chart : IsChartHeader header
  pub issued : length header.issued ≡ 8
  pub agency : IsTwoBytes header.agency
  pub scale : IsFourBytes header.scale

-- counts of features that fit their formats
pub record AreFeatureCountsInRange (cell : CellValue) : Type 0 where
  pub meta : IsFourBytes (features_in cell 300 399)
  pub cartographic : IsFourBytes (features_in cell 500 599)
  pub geographic : IsFourBytes (features_outside cell 300 599)
  pub collection : IsFourBytes (features_in cell 400 499)

-- the same of vectors
pub record AreVectorCountsInRange (cell : CellValue) : Type 0 where
  pub isolated : IsFourBytes (vectors_of cell ISOLATED_NODE)
  pub connected : IsFourBytes (vectors_of cell CONNECTED_NODE)
  pub edges : IsFourBytes (vectors_of cell EDGE)

pub record AreCountsInRange (cell : CellValue) : Type 0 where
  pub features : AreFeatureCountsInRange cell
  pub vectors : AreVectorCountsInRange cell

-- a cell whose values fit their formats
pub record IsCellInRange (cell : CellValue) : Type 0 where
  pub header : IsHeaderInRange cell.header
  pub counts : AreCountsInRange cell
  pub vectors : AllByRecursion IsVectorInRange (finite.entries cell.vectors)
  pub features : AllByRecursion IsFeatureEntryInRange (finite.entries cell.features)

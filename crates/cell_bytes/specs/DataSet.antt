-- The records of a data set's general information as fields (S-57 Part 3, 7.3).
use Rattle.std.specs.Prelude.{ℕ, pos, ◌==◌, not, List, [], ◌++◌, codes, count_by}
use Rattle.std.specs.Int.{is_in_range}
use Rattle.std.specs.FinMap as map
use Rattle.text_scan.specs.Written.{decimal_of}
use Rattle.chart_model.specs.declared.dataset.Header.{Header}
use Rattle.chart_model.specs.Cell.{CellValue}
use Rattle.chart_model.specs.Codes.{ISOLATED_NODE, CONNECTED_NODE, EDGE}
use Rattle.cell_bytes.specs.Subfields.{b11, b12, b14, open_text}
use Rattle.cell_bytes.specs.Record.{Field, digits, field}
use Rattle.cell_bytes.specs.Vector.{record_identifier}
use Rattle.cell_bytes.specs.declared.data_set.Purpose.{Purpose}
use Rattle.cell_bytes.specs.declared.data_set.Purpose.TheVariants.{NewDataSet, Revision}

-- ---- DSID

-- the code of the purpose, in EXPP as in PROF: 1 of a new data set and of its application profile, 2 of a revision
abbrev pub purpose_code : Purpose → ℕ
purpose_code NewDataSet = 1
purpose_code Revision = 2

-- the extension of the file's name: 000 of a base file, and of an update its number
abbrev pub extension : Purpose → ℕ → List ℕ
extension NewDataSet update = codes "000"
extension Revision update = digits 3 update

-- a number in decimal digits
unfoldable pub number_text : ℕ → List ℕ
number_text number = open_text (decimal_of (pos number))

-- RCNM, RCID, EXPP and INTU
unfoldable pub exchange_text : Purpose → List ℕ
exchange_text purpose = b11 10 ++ b14 1 ++ b11 (purpose_code purpose) ++ b11 5

-- DSNM, EDTN and UPDN
unfoldable pub name_and_numbers : Purpose → Header → List ℕ
name_and_numbers purpose header =
    open_text (header.key ++ codes "." ++ extension purpose header.update)
    ++ number_text header.edition ++ number_text header.update

-- UADT, ISDT and STED
unfoldable pub dates_text : Header → List ℕ
dates_text header = header.issued ++ header.issued ++ codes "03.1"

-- PRSP, PSDN, PRED, PROF, AGEN and COMT
unfoldable pub product_text : Purpose → ℕ → List ℕ
product_text purpose agency =
    b11 1 ++ open_text [] ++ open_text (codes "2.0") ++ b11 (purpose_code purpose) ++ b12 agency ++ open_text []

unfoldable pub data_set_identifier : Purpose → Header → List ℕ
data_set_identifier purpose header =
    exchange_text purpose ++ name_and_numbers purpose header ++ dates_text header ++ product_text purpose header.agency

-- ---- DSSI

-- the vectors of a kind
unfoldable pub vectors_of : CellValue → ℕ → ℕ
vectors_of cell rcnm = count_by (λ entry. entry.0.rcnm == rcnm) (map.entries cell.vectors)

-- the features with a class from the first to the last
unfoldable pub features_in : CellValue → ℕ → ℕ → ℕ
features_in cell first last = count_by (λ entry. is_in_range first last entry.1.class) (map.entries cell.features)

-- those with another
unfoldable pub features_outside : CellValue → ℕ → ℕ → ℕ
features_outside cell first last =
    count_by (λ entry. not (is_in_range first last entry.1.class)) (map.entries cell.features)

-- NOMR, NOCR, NOGR and NOLR: meta objects, cartographic objects, geographic ones and collections
unfoldable pub feature_counts : CellValue → List ℕ
feature_counts cell =
    b14 (features_in cell 300 399) ++ b14 (features_in cell 500 599)
    ++ b14 (features_outside cell 300 599) ++ b14 (features_in cell 400 499)

-- NOIN, NOCN, NOED and NOFA
unfoldable pub vector_counts : CellValue → List ℕ
vector_counts cell =
    b14 (vectors_of cell ISOLATED_NODE) ++ b14 (vectors_of cell CONNECTED_NODE) ++ b14 (vectors_of cell EDGE) ++ b14 0

-- DSTR 2, a chain-node topology; AALL 1, attributes of the level of ISO/IEC 8859-1; no attributes of NALL
unfoldable pub structure_text : CellValue → List ℕ
structure_text cell = b11 2 ++ b11 1 ++ b11 0 ++ feature_counts cell ++ vector_counts cell

-- ---- DSPM

-- RCNM, RCID, HDAT, VDAT, SDAT and CSCL
unfoldable pub datum_text : ℕ → List ℕ
datum_text scale = b11 20 ++ b14 1 ++ b11 2 ++ b11 1 ++ b11 1 ++ b14 scale

-- DUNI, HUNI, PUNI and COUN
unfoldable pub unit_text : List ℕ
unit_text = b11 1 ++ b11 1 ++ b11 1 ++ b11 1

-- COMF, SOMF and COMT
unfoldable pub factor_text : List ℕ
factor_text = b14 10000000 ++ b14 10 ++ open_text []

unfoldable pub parameter_text : ℕ → List ℕ
parameter_text scale = datum_text scale ++ unit_text ++ factor_text

-- ---- the records

-- the general information of a base file
unfoldable pub general_fields : ℕ → CellValue → List Field
general_fields number cell =
    record_identifier number ++ field (codes "DSID") (data_set_identifier NewDataSet cell.header)
    ++ field (codes "DSSI") (structure_text cell)

-- the parameters of a base file
unfoldable pub parameter_fields : ℕ → ℕ → List Field
parameter_fields number scale = record_identifier number ++ field (codes "DSPM") (parameter_text scale)

-- the general information of an update
unfoldable pub revision_fields : ℕ → Header → List Field
revision_fields number header = record_identifier number ++ field (codes "DSID") (data_set_identifier Revision header)

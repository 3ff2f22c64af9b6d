-- The records of vectors as fields (S-57 Part 3, 7.7.1).
use Rattle.std.specs.Prelude.{ℕ, pos, int_div, List, [], ◌++◌, codes, is_none, if◌then◌else◌}
use Rattle.std.specs.Option.{option_map_or}
use Rattle.std.specs.List.{flat_map}
use Rattle.std.specs.FinMap as map
use Rattle.chart_model.specs.declared.name.Name.{Name}
use Rattle.chart_model.specs.declared.record.Pointer.{Pointer}
use Rattle.chart_model.specs.declared.record.Coord.{Coord}
use Rattle.chart_model.specs.declared.cell.Vector.{Vector}
use Rattle.chart_model.specs.Attrs.{Attrs}
use Rattle.chart_model.specs.Codes.{INSERT}
use Rattle.cell_bytes.specs.Subfields.{b11, b12, b14, b24, open_text}
use Rattle.cell_bytes.specs.Record.{Field, field, list_field}

-- the identifier of a record: its number (ISO/IEC 8211)
unfoldable pub record_identifier : ℕ → List Field
record_identifier number = field (codes "0001") (b12 number)

-- a name: RCNM and RCID
unfoldable pub name_text : Name → List ℕ
name_text name = b11 name.rcnm ++ b14 name.rcid

-- an attribute: ATTL and ATVL
unfoldable pub attribute : ℕ → List ℕ → List ℕ
attribute code value = b12 code ++ open_text value

-- attributes in the order of their codes
unfoldable pub attributes : Attrs → List ℕ
attributes attrs = flat_map (λ entry. attribute entry.0 entry.1) (map.entries attrs)

-- a pointer of a vector record: NAME, ORNT, USAG, TOPI and MASK
unfoldable pub vector_pointer : Pointer → List ℕ
vector_pointer pointer =
    name_text pointer.target ++ b11 pointer.ornt ++ b11 pointer.usag ++ b11 pointer.topi ++ b11 pointer.mask

-- latitude and longitude of a coordinate: YCOO and XCOO
unfoldable pub place : Coord → List ℕ
place coord = b24 coord.y ++ b24 coord.x

-- a coordinate without a depth
unfoldable pub point : Coord → List ℕ
point coord = if is_none coord.z then place coord else []

-- a coordinate with a depth, of which VE3D is in decimetres
unfoldable pub sounding : Coord → List ℕ
sounding coord = option_map_or (λ depth. place coord ++ b24 (int_div depth (pos 10))) coord.z []

-- VRID: RCNM, RCID, RVER and RUIN
unfoldable pub vector_identifier : Name → ℕ → List ℕ
vector_identifier name version = name_text name ++ b12 version ++ b11 INSERT

-- the fields of the record of a vector
unfoldable pub vector_fields : ℕ → Name → Vector → List Field
vector_fields number name vector =
    record_identifier number ++ field (codes "VRID") (vector_identifier name vector.version)
    ++ list_field (codes "ATTV") (attributes vector.attrs)
    ++ list_field (codes "VRPT") (flat_map vector_pointer vector.pointers)
    ++ list_field (codes "SG2D") (flat_map point vector.coords)
    ++ list_field (codes "SG3D") (flat_map sounding vector.coords)

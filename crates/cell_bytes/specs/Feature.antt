-- The records of features as fields (S-57 Part 3, 7.6).
use Rattle.std.specs.Prelude.{ℕ, List, [], ◌++◌, codes}
use Rattle.std.specs.List.{flat_map}
use Rattle.chart_model.specs.declared.name.Name.{Name}
use Rattle.chart_model.specs.declared.name.Foid.{Foid}
use Rattle.chart_model.specs.declared.record.Pointer.{Pointer}
use Rattle.chart_model.specs.declared.record.Related.{Related}
use Rattle.chart_model.specs.declared.cell.Feature.{Feature}
use Rattle.chart_model.specs.Codes.{INSERT}
use Rattle.cell_bytes.specs.Subfields.{b11, b12, b14, open_text}
use Rattle.cell_bytes.specs.Record.{Field, field, list_field}
use Rattle.cell_bytes.specs.Vector.{attributes, record_identifier, name_text}

-- AGEN, FIDN and FIDS, as in FOID and in LNAM
unfoldable pub object_name : Foid → List ℕ
object_name foid = b12 foid.agen ++ b14 foid.fidn ++ b12 foid.fids

-- a related object: LNAM, RIND and an empty COMT
unfoldable pub related_object : Related → List ℕ
related_object related = object_name related.foid ++ b11 related.rind ++ open_text []

-- a pointer of a feature: NAME, ORNT, USAG and MASK
unfoldable pub feature_pointer : Pointer → List ℕ
feature_pointer pointer = name_text pointer.target ++ b11 pointer.ornt ++ b11 pointer.usag ++ b11 pointer.mask

-- what FRID says of an object: PRIM, GRUP, OBJL and RVER
unfoldable pub object_description : ℕ → ℕ → ℕ → ℕ → List ℕ
object_description prim grup class version = b11 prim ++ b11 grup ++ b12 class ++ b12 version

-- FRID of a feature that is inserted
unfoldable pub feature_identifier : Name → Feature → List ℕ
feature_identifier name feature =
    name_text name ++ object_description feature.prim feature.grup feature.class feature.version ++ b11 INSERT

-- the fields of the record of a feature
unfoldable pub feature_fields : ℕ → Name → Feature → List Field
feature_fields number name feature =
    record_identifier number ++ field (codes "FRID") (feature_identifier name feature)
    ++ field (codes "FOID") (object_name feature.foid)
    ++ list_field (codes "ATTF") (attributes feature.attrs)
    ++ list_field (codes "FFPT") (flat_map related_object feature.related)
    ++ list_field (codes "FSPT") (flat_map feature_pointer feature.pointers)

-- The values of the fields of vector and feature records (S-57 Part 3, 7.6 and 7.7.1), and their ranges.
use Rattle.std.specs.Prelude.{ℕ, pos, ◌<◌, int_div, List, [], ◌∷◌, is_none, if◌then◌else◌, IfSome, FitsSigned}
use Rattle.std.specs.Int.{w32}
use Rattle.std.specs.Option.{option_map_or}
use Rattle.chart_model.specs.declared.name.Name.{Name}
use Rattle.chart_model.specs.declared.name.Foid.{Foid}
use Rattle.chart_model.specs.declared.record.Coord.{Coord}
use Rattle.chart_model.specs.declared.record.Pointer.{Pointer}
use Rattle.chart_model.specs.declared.record.Related.{Related}
use Rattle.chart_model.specs.declared.cell.Feature.{Feature}
use Rattle.chart_model.specs.Codes.{INSERT}
use Rattle.chart_model.specs.Record.{IsPlainText}
use Rattle.iso8211_records.specs.declared.value.Value.{Value}
use Rattle.iso8211_records.specs.declared.value.Value.TheVariants.{Bits, Number, Text}
use Rattle.cell_bytes.specs.Feature.{object_name}
use Rattle.cell_bytes.specs.Vector.{name_text}

-- ---- numbers of one, two and four bytes

abbrev pub IsOneByte : ℕ → Type 0
IsOneByte number = number < 256

abbrev pub IsTwoBytes : ℕ → Type 0
IsTwoBytes number = number < 65536

abbrev pub IsFourBytes : ℕ → Type 0
IsFourBytes number = number < 4294967296

abbrev pub natural : ℕ → Value
natural number = Number (pos number)

-- ---- vector records

pub record IsNameInRange (name : Name) : Type 0 where
  pub rcnm : IsOneByte name.rcnm
  pub rcid : IsFourBytes name.rcid

-- VRID
abbrev pub vector_identifier_values : Name → ℕ → List Value
vector_identifier_values name version =
    natural name.rcnm ∷ (natural name.rcid ∷ (natural version ∷ (natural INSERT ∷ [])))

-- ATTV and ATTF
pub record IsEntryInRange (entry : ℕ × List ℕ) : Type 0 where
  pub code : IsTwoBytes entry.0
  pub text : IsPlainText entry.1

abbrev pub attribute_values : ℕ × List ℕ → List Value
attribute_values entry = natural entry.0 ∷ (Text entry.1 ∷ [])

-- VRPT
pub record IsPointerInRange (pointer : Pointer) : Type 0 where
  pub target : IsNameInRange pointer.target
  pub ornt : IsOneByte pointer.ornt
  pub usag : IsOneByte pointer.usag
  pub topi : IsOneByte pointer.topi
  pub mask : IsOneByte pointer.mask

abbrev pub vector_pointer_values : Pointer → List Value
vector_pointer_values pointer =
    Bits (name_text pointer.target)
    ∷ (natural pointer.ornt ∷ (natural pointer.usag ∷ (natural pointer.topi ∷ (natural pointer.mask ∷ []))))

-- SG2D and SG3D: YCOO, XCOO and VE3D
pub record IsCoordInRange (coord : Coord) : Type 0 where
  pub x : FitsSigned w32 coord.x
  pub y : FitsSigned w32 coord.y
  pub z : IfSome coord.z (λ depth. FitsSigned w32 (int_div depth (pos 10)))

abbrev pub point_values : Coord → List Value
point_values coord = if is_none coord.z then Number coord.y ∷ (Number coord.x ∷ []) else []

abbrev pub sounding_values : Coord → List Value
sounding_values coord =
    option_map_or (λ depth. Number coord.y ∷ (Number coord.x ∷ (Number (int_div depth (pos 10)) ∷ []))) coord.z []

-- ---- features

pub record IsFoidInRange (foid : Foid) : Type 0 where
  pub agen : IsTwoBytes foid.agen
  pub fidn : IsFourBytes foid.fidn
  pub fids : IsTwoBytes foid.fids

-- FRID
pub record IsFeatureInRange (feature : Feature) : Type 0 where
  pub prim : IsOneByte feature.prim
  pub grup : IsOneByte feature.grup
  pub class : IsTwoBytes feature.class
  pub version : IsTwoBytes feature.version

abbrev pub feature_identifier_values : Name → Feature → List Value
feature_identifier_values name feature =
    natural name.rcnm ∷ (natural name.rcid ∷ (natural feature.prim ∷ (natural feature.grup
    ∷ (natural feature.class ∷ (natural feature.version ∷ (natural INSERT ∷ []))))))

-- FOID
abbrev pub object_values : Foid → List Value
object_values foid = natural foid.agen ∷ (natural foid.fidn ∷ (natural foid.fids ∷ []))

-- FFPT
pub record IsRelatedInRange (related : Related) : Type 0 where
  pub foid : IsFoidInRange related.foid
  pub rind : IsOneByte related.rind

abbrev pub related_values : Related → List Value
related_values related = Bits (object_name related.foid) ∷ (natural related.rind ∷ (Text [] ∷ []))

-- FSPT
abbrev pub feature_pointer_values : Pointer → List Value
feature_pointer_values pointer =
    Bits (name_text pointer.target)
    ∷ (natural pointer.ornt ∷ (natural pointer.usag ∷ (natural pointer.mask ∷ [])))

-- What one data record stands for (S-57 Part 3; Appendix B.1): its fields in their order, each with its subfields in
-- their order, and with the tests of the profile and of the lists of values in their places.
use Rattle.std.specs.Prelude.{ℕ, Bool, false, not, ◌&&◌, ◌||◌, ◌==◌, nat_le, if◌then◌else◌, List, [], ◌++◌}
use Rattle.std.specs.Prelude.{codes, Option, Some, None, Result, Ok, Err}
use Rattle.std.specs.Int.{is_in_range}
use Rattle.chart_model.specs.Answers.{◌>>=◌}
use Rattle.chart_model.specs.Codes.{FEATURE, ISOLATED_NODE, CONNECTED_NODE, EDGE, POINT, AREA, NO_PRIMITIVE}
use Rattle.chart_model.specs.Codes.{INSERT, DELETE, MODIFY}
use Rattle.chart_model.specs.declared.name.Foid.{Foid}
use Rattle.chart_model.specs.declared.update_record.Control.{Control}
use Rattle.chart_model.specs.Change.{Change}
use Rattle.chart_model.specs.declared.record.Attr.{Attr}
use Rattle.chart_model.specs.declared.record.Coord.{Coord}
use Rattle.chart_model.specs.declared.record.Pointer.{Pointer}
use Rattle.chart_model.specs.declared.record.Related.{Related}
use Rattle.s57_subfields.specs.Number.{ONE_BYTE, TWO_BYTES, FOUR_BYTES}
use Rattle.s57_records.specs.declared.general.General.{General}
use Rattle.s57_records.specs.declared.change.VectorHead.{VectorHead}
use Rattle.s57_records.specs.declared.change.FeatureHead.{FeatureHead}
use Rattle.s57_records.specs.declared.fault.DatasetFault.{DatasetFault}
use Rattle.s57_records.specs.declared.fault.DatasetFault.TheVariants.{MissingField, Value, Profile}
use Rattle.s57_records.specs.Subfields.{Subfields}

-- the fault where the test fails
abbrev pub ensure : Bool → DatasetFault → Result (Unit {0}) DatasetFault
ensure test fault = if test then Ok tt else Err fault

-- whether a subfield reads as this number
abbrev pub reads_as : Result ℕ DatasetFault → ℕ → Bool
reads_as (Ok n) m = n == m
reads_as (Err fault) m = false

-- ---- general information

-- an edition of 0 is refused in a base file
abbrev pub checked_edition : Subfields → ℕ → Result (Unit {0}) DatasetFault
checked_edition s edition =
    ensure (not (edition == 0 && reads_as (s.number (codes "DSID") (codes "PROF") ONE_BYTE) 1)) (Profile (codes "EDTN"))

-- DSID: PROF is 1 for a base file, whose edition isn't 0, and 2 for an update
unfoldable pub general_of : Subfields → Result General DatasetFault
general_of s = do
  key ← s.key (codes "DSID") (codes "DSNM")
  edition ← s.digits (codes "DSID") (codes "EDTN")
  _ ← checked_edition s edition
  update ← s.digits (codes "DSID") (codes "UPDN")
  issued ← s.date (codes "DSID") (codes "ISDT")
  prof ← s.number (codes "DSID") (codes "PROF") ONE_BYTE
  _ ← ensure (prof == 1 || prof == 2) (Profile (codes "PROF"))
  agency ← s.number (codes "DSID") (codes "AGEN") TWO_BYTES
  Ok (record { key = key; edition = edition; update = update; issued = issued; base = prof == 1; agency = agency })

-- DSSI, where it is there: AALL is 0 or 1
unfoldable pub checked_structure : Subfields → Result (Unit {0}) DatasetFault
checked_structure s =
    if s.has (codes "DSSI") then (do
      aall ← s.number (codes "DSSI") (codes "AALL") ONE_BYTE
      ensure (nat_le aall 1) (Profile (codes "AALL")))
    else Ok tt

-- DSPM of a base file: the denominator of the scale. Depths are in metres, coordinates in degrees times 10,000,000,
-- soundings in decimetres
unfoldable pub scale_of : Subfields → Result ℕ DatasetFault
scale_of s = do
  scale ← s.number (codes "DSPM") (codes "CSCL") FOUR_BYTES
  duni ← s.number (codes "DSPM") (codes "DUNI") ONE_BYTE
  _ ← ensure (duni == 1) (Profile (codes "DUNI"))
  coun ← s.number (codes "DSPM") (codes "COUN") ONE_BYTE
  _ ← ensure (coun == 1) (Profile (codes "COUN"))
  comf ← s.number (codes "DSPM") (codes "COMF") FOUR_BYTES
  _ ← ensure (comf == 10000000) (Profile (codes "COMF"))
  somf ← s.number (codes "DSPM") (codes "SOMF") FOUR_BYTES
  _ ← ensure (somf == 10) (Profile (codes "SOMF"))
  Ok scale

-- ---- changes

abbrev pub is_instruction : ℕ → Bool
is_instruction n = is_in_range INSERT MODIFY n

-- the instruction of a record: insert in a base file, and in an update RUIN, which is insert, delete or modify
unfoldable pub ruin_of : Bool → ℕ → Subfields → List ℕ → Result ℕ DatasetFault
ruin_of base n s tag =
    if base then Ok INSERT else (do
      ruin ← s.number tag (codes "RUIN") ONE_BYTE
      _ ← ensure (is_instruction ruin) (Value n (codes "RUIN"))
      Ok ruin)

-- the lists of a deletion aren't looked at
abbrev pub unless_deleted : {A : Type 0} → ℕ → Result (List A) DatasetFault → Result (List A) DatasetFault
unless_deleted ruin items = if ruin == DELETE then Ok [] else items

-- The control field of a list: the labels are those of its instruction, its index and its count. It is looked at in
-- the modifications of an update alone.
unfoldable pub edit_of :
    Bool → ℕ → ℕ → Subfields → List ℕ → List ℕ → List ℕ → List ℕ → Result (Option Control) DatasetFault
edit_of base ruin n s tag instruction_label index_label count_label =
    if not base && (ruin == MODIFY && s.has tag) then (do
      instruction ← s.number tag instruction_label ONE_BYTE
      _ ← ensure (is_instruction instruction) (Value n instruction_label)
      index ← s.number tag index_label TWO_BYTES
      count ← s.number tag count_label TWO_BYTES
      Ok (Some (record { instruction = instruction; index = index; count = count })))
    else Ok None

abbrev pub is_vector_kind : ℕ → Bool
is_vector_kind rcnm = rcnm == ISOLATED_NODE || (rcnm == CONNECTED_NODE || rcnm == EDGE)

-- VRID
unfoldable pub vector_head : Bool → ℕ → Subfields → Result VectorHead DatasetFault
vector_head base n s = do
  rcnm ← s.number (codes "VRID") (codes "RCNM") ONE_BYTE
  _ ← ensure (is_vector_kind rcnm) (Profile (codes "RCNM"))
  rcid ← s.number (codes "VRID") (codes "RCID") FOUR_BYTES
  version ← s.number (codes "VRID") (codes "RVER") TWO_BYTES
  ruin ← ruin_of base n s (codes "VRID")
  Ok (record { target = record { rcnm = rcnm; rcid = rcid }; version = version; ruin = ruin })

-- SG2D and SG3D, of which a record has one at most
unfoldable pub coords_of : ℕ → Subfields → Result (List Coord) DatasetFault
coords_of ruin s = do
  coordinates ← unless_deleted ruin (s.coords (codes "SG2D"))
  _ ← ensure (not (s.has (codes "SG2D") && s.has (codes "SG3D"))) (Profile (codes "SG3D"))
  soundings ← unless_deleted ruin (s.coords (codes "SG3D"))
  Ok (coordinates ++ soundings)

-- the change of a vector record, from its parts
abbrev pub vector_change : VectorHead → List Attr → Option Control → List Pointer → Option Control → List Coord → Change
vector_change head attrs pointer_edit pointers coord_edit coords = record {
  target = head.target;
  ruin = head.ruin;
  version = head.version;
  prim = 0;
  grup = 0;
  class = 0;
  foid = None;
  attrs = attrs;
  pointer_edit = pointer_edit;
  pointers = pointers;
  coord_edit = coord_edit;
  coords = coords;
  related_edit = None;
  related = [];
}

-- VRID, ATTV, VRPC, VRPT, SGCC, SG2D and SG3D. A record has no ARCC.
unfoldable pub vector_of : Bool → ℕ → Subfields → Result Change DatasetFault
vector_of base n s = do
  head ← vector_head base n s
  attrs ← unless_deleted head.ruin (s.attrs (codes "ATTV"))
  pointer_edit ← edit_of base head.ruin n s (codes "VRPC") (codes "VPUI") (codes "VPIX") (codes "NVPT")
  pointers ← unless_deleted head.ruin (s.pointers (codes "VRPT"))
  coord_edit ← edit_of base head.ruin n s (codes "SGCC") (codes "CCUI") (codes "CCIX") (codes "CCNC")
  coords ← coords_of head.ruin s
  _ ← ensure (not (s.has (codes "ARCC"))) (Profile (codes "ARCC"))
  Ok (vector_change head attrs pointer_edit pointers coord_edit coords)

-- a point, a line, an area or none of these
abbrev pub is_prim : ℕ → Bool
is_prim prim = is_in_range POINT AREA prim || prim == NO_PRIMITIVE

-- whether the record inserts: each does in a base file
abbrev pub inserts : Bool → Subfields → Bool
inserts base s = base || reads_as (s.number (codes "FRID") (codes "RUIN") ONE_BYTE) INSERT

-- the primitive of an insertion is one of the list
abbrev pub checked_prim : Bool → ℕ → Subfields → ℕ → Result (Unit {0}) DatasetFault
checked_prim base n s prim = ensure (not (inserts base s) || is_prim prim) (Value n (codes "PRIM"))

-- FOID, which an insertion needs
unfoldable pub foid_of : ℕ → ℕ → Subfields → Result (Option Foid) DatasetFault
foid_of ruin n s =
    if s.has (codes "FOID") then (do
      foid ← s.foid
      Ok (Some foid))
    else (if ruin == INSERT then Err (MissingField n (codes "FOID")) else Ok None)

-- FRID
unfoldable pub feature_head : Bool → ℕ → Subfields → Result FeatureHead DatasetFault
feature_head base n s = do
  rcnm ← s.number (codes "FRID") (codes "RCNM") ONE_BYTE
  _ ← ensure (rcnm == FEATURE) (Profile (codes "RCNM"))
  rcid ← s.number (codes "FRID") (codes "RCID") FOUR_BYTES
  prim ← s.number (codes "FRID") (codes "PRIM") ONE_BYTE
  _ ← checked_prim base n s prim
  grup ← s.number (codes "FRID") (codes "GRUP") ONE_BYTE
  class ← s.number (codes "FRID") (codes "OBJL") TWO_BYTES
  version ← s.number (codes "FRID") (codes "RVER") TWO_BYTES
  ruin ← ruin_of base n s (codes "FRID")
  Ok (record {
    target = record { rcnm = rcnm; rcid = rcid };
    prim = prim;
    grup = grup;
    class = class;
    version = version;
    ruin = ruin;
  })

-- the change of a feature record, from its parts
abbrev pub feature_change : FeatureHead → Option Foid → List Attr → Option Control → List Related
    → Option Control → List Pointer → Change
feature_change head foid attrs related_edit related pointer_edit pointers = record {
  target = head.target;
  ruin = head.ruin;
  version = head.version;
  prim = head.prim;
  grup = head.grup;
  class = head.class;
  foid = foid;
  attrs = attrs;
  pointer_edit = pointer_edit;
  pointers = pointers;
  coord_edit = None;
  coords = [];
  related_edit = related_edit;
  related = related;
}

-- FRID, FOID, ATTF, FFPC, FFPT, FSPC and FSPT
unfoldable pub feature_of : Bool → ℕ → Subfields → Result Change DatasetFault
feature_of base n s = do
  head ← feature_head base n s
  foid ← foid_of head.ruin n s
  attrs ← unless_deleted head.ruin (s.attrs (codes "ATTF"))
  related_edit ← edit_of base head.ruin n s (codes "FFPC") (codes "FFUI") (codes "FFIX") (codes "NFPT")
  related ← unless_deleted head.ruin (s.related (codes "FFPT"))
  pointer_edit ← edit_of base head.ruin n s (codes "FSPC") (codes "FSUI") (codes "FSIX") (codes "NSPT")
  pointers ← unless_deleted head.ruin (s.pointers (codes "FSPT"))
  Ok (feature_change head foid attrs related_edit related pointer_edit pointers)

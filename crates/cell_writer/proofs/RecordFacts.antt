-- What a record stands for, of which it is known what its subfields read as.
use Rattle.std.proofs.Common.{◌≡◌, ℕ, ◌≤◌, true, false, ◌&&◌, List, ◌++◌, Ok, refl, inl, inr, arith}
use Rattle.std.specs.Prelude.{codes, ◌==◌}
use Rattle.std.proofs.lemmas.Bool.{false_from_ne_true, eqb-true}
use Rattle.std.proofs.lemmas.Bool.Decides.{nat_tests}
use Rattle.chart_model.specs.declared.name.Name.{Name}
use Rattle.chart_model.specs.declared.record.Coord.{Coord}
use Rattle.chart_model.specs.declared.cell.Vector.{Vector}
use Rattle.chart_model.specs.declared.cell.Feature.{Feature}
use Rattle.chart_model.specs.declared.dataset.Header.{Header}
use Rattle.chart_model.specs.Codes.{FEATURE}
use Rattle.chart_model.specs.Record.{IsFeatureName, IsPrim, IsVectorName}
use Rattle.s57_subfields.specs.Number.{FOUR_BYTES, ONE_BYTE, TWO_BYTES}
use Rattle.s57_records.specs.Subfields.{Subfields}
use Rattle.s57_records.specs.Rows.{coords_of, edit_of, feature_head, feature_of, foid_of, general_of, is_prim, is_vector_kind, ruin_of, vector_head, vector_of}
use Rattle.cell_writer.specs.ReadBack.{feature_insertion, settings_of, vector_insertion}

-- ---- vectors

-- the lists of a vector's record
pub record ReadsVectorLists (s : Subfields) (vector : Vector) : Type 0 where
  pub attrs : s.attrs (codes "ATTV") ≡ Ok (settings_of vector.attrs)
  pub pointers : s.pointers (codes "VRPT") ≡ Ok vector.pointers
  pub points : List Coord
  pub soundings : List Coord
  pub without_depth : s.coords (codes "SG2D") ≡ Ok points
  pub with_depth : s.coords (codes "SG3D") ≡ Ok soundings
  pub coords : points ++ soundings ≡ vector.coords
  pub alike : s.has (codes "SG2D") && s.has (codes "SG3D") ≡ false

-- its identifier, and that it has no arcs
pub record ReadsVectorHead (s : Subfields) (name : Name) (vector : Vector) : Type 0 where
  pub rcnm : s.number (codes "VRID") (codes "RCNM") ONE_BYTE ≡ Ok name.rcnm
  pub rcid : s.number (codes "VRID") (codes "RCID") FOUR_BYTES ≡ Ok name.rcid
  pub version : s.number (codes "VRID") (codes "RVER") TWO_BYTES ≡ Ok vector.version
  pub no_arcs : s.has (codes "ARCC") ≡ false

vector_kind : (name : Name) → IsVectorName name → is_vector_kind name.rcnm ≡ true
vector_kind name (inl node) = rw node refl
vector_kind name (inr (inl node)) = rw node refl
vector_kind name (inr (inr edge)) = rw edge refl

pub vector-is : (n : ℕ) (s : Subfields) (name : Name) (vector : Vector) → IsVectorName name → ReadsVectorHead s name vector
    → ReadsVectorLists s vector → vector_of true n s ≡ Ok (vector_insertion name vector)
unfolding vector_of vector_head ruin_of edit_of coords_of
vector-is n s name vector named head lists =
    let kind = vector_kind name named in
    rw (head.rcnm, kind, head.rcid, head.version, lists.attrs, lists.pointers, lists.without_depth, lists.alike, lists.with_depth, lists.coords, head.no_arcs) refl

-- ---- features

pub record ReadsFeatureLists (s : Subfields) (feature : Feature) : Type 0 where
  pub attrs : s.attrs (codes "ATTF") ≡ Ok (settings_of feature.attrs)
  pub related : s.related (codes "FFPT") ≡ Ok feature.related
  pub pointers : s.pointers (codes "FSPT") ≡ Ok feature.pointers
  pub foid : s.foid ≡ Ok feature.foid

pub record ReadsFeatureHead (s : Subfields) (name : Name) (feature : Feature) : Type 0 where
  pub rcnm : s.number (codes "FRID") (codes "RCNM") ONE_BYTE ≡ Ok name.rcnm
  pub rcid : s.number (codes "FRID") (codes "RCID") FOUR_BYTES ≡ Ok name.rcid
  pub prim : s.number (codes "FRID") (codes "PRIM") ONE_BYTE ≡ Ok feature.prim
  pub grup : s.number (codes "FRID") (codes "GRUP") ONE_BYTE ≡ Ok feature.grup
  pub class : s.number (codes "FRID") (codes "OBJL") TWO_BYTES ≡ Ok feature.class
  pub version : s.number (codes "FRID") (codes "RVER") TWO_BYTES ≡ Ok feature.version
  pub identified : s.has (codes "FOID") ≡ true

feature_kind : (name : Name) → IsFeatureName name → name.rcnm == FEATURE ≡ true
feature_kind name named = rw named refl

prim_test : (prim : ℕ) → IsPrim prim → is_prim prim ≡ true
prim_test prim (inl shape) = grind (arith, nat_tests)
prim_test prim (inr none) = rw none refl

pub feature-is : (n : ℕ) (s : Subfields) (name : Name) (feature : Feature) → IsFeatureName name → IsPrim feature.prim
    → ReadsFeatureHead s name feature → ReadsFeatureLists s feature → feature_of true n s ≡ Ok (feature_insertion name feature)
unfolding feature_of feature_head ruin_of edit_of foid_of
feature-is n s name feature named shaped head lists =
    let kind = feature_kind name named in
    let prim = prim_test feature.prim shaped in
    rw (head.rcnm, kind, head.rcid, head.prim, prim, head.grup, head.class, head.version, head.identified, lists.foid, lists.attrs, lists.related, lists.pointers) refl

-- ---- general information and parameters

pub record ReadsHeader (s : Subfields) (header : Header) : Type 0 where
  pub key : s.key (codes "DSID") (codes "DSNM") ≡ Ok header.key
  pub edition : s.digits (codes "DSID") (codes "EDTN") ≡ Ok header.edition
  pub update : s.digits (codes "DSID") (codes "UPDN") ≡ Ok header.update
  pub issued : s.date (codes "DSID") (codes "ISDT") ≡ Ok header.issued
  pub prof : s.number (codes "DSID") (codes "PROF") ONE_BYTE ≡ Ok 1
  pub agency : s.number (codes "DSID") (codes "AGEN") TWO_BYTES ≡ Ok header.agency

pub general-is : (s : Subfields) (header : Header) → 1 ≤ header.edition → ReadsHeader s header
    → general_of s ≡ Ok (record {
      key = header.key;
      edition = header.edition;
      update = header.update;
      issued = header.issued;
      base = true;
      agency = header.agency;
    })
unfolding general_of
general-is s header some reads =
    let stands : header.edition == 0 ≡ false = false_from_ne_true _ (λ none. let zero = eqb-true header.edition 0 none in omega arith) in
    rw (reads.key, reads.edition, stands, reads.update, reads.issued, reads.prof, reads.agency) refl

-- Worked rows, computed.
use Rattle.std.proofs.Common.{◌≡◌, ℕ, Bool, true, false, cond, ◌||◌, List, [], ◌∷◌, Result, Ok, Err, refl}
use Rattle.std.specs.Prelude.{codes}
use Rattle.std.specs.Str.{bytes_eq}
use Rattle.s57_records.specs.declared.fault.DatasetFault.{DatasetFault}
use Rattle.s57_records.specs.declared.fault.DatasetFault.TheVariants.{NoGeneral, MissingField, Value, Profile}
use Rattle.s57_records.specs.Subfields.{Subfields}
use Rattle.s57_records.specs.Rows.{general_of, checked_structure, ruin_of, edit_of, vector_head, coords_of, vector_of, foid_of, feature_head, feature_of}
use Rattle.s57_records.specs.Dataset.{record_content, dataset_after, dataset_of}

-- the number under a label: the first of this name
abbrev under : List (List ℕ × ℕ) → ℕ → List ℕ → Result ℕ DatasetFault
under [] n label = Err (MissingField n label)
under (entry ∷ entries) n label = cond (bytes_eq entry.0 label) (Ok entry.1) (under entries n label)

abbrev has_tag : List (List ℕ) → List ℕ → Bool
has_tag [] tag = false
has_tag (other ∷ tags) tag = bytes_eq other tag || has_tag tags tag

-- record n with these fields and these numbers, and with no list
abbrev sample : ℕ → List (List ℕ) → List (List ℕ × ℕ) → Subfields
sample n tags numbers = record {
  has = has_tag tags;
  number = λ tag label most. under numbers n label;
  digits = λ tag label. under numbers n label;
  key = λ tag label. Ok (codes "AA5TEST1");
  date = λ tag label. Ok (codes "20240101");
  attrs = λ tag. Ok [];
  pointers = λ tag. Ok [];
  coords = λ tag. Ok [];
  related = λ tag. Ok [];
  foid = Err (Value n (codes "FIDN"));
}

-- an edition of 0 in a base file counts before an update number that is missing
edition_first : dataset_of (sample 1 (codes "DSID" ∷ []) ((codes "EDTN", 0) ∷ (codes "PROF", 1) ∷ []) ∷ []) ≡ Err (Profile (codes "EDTN"))
unfolding dataset_of general_of
edition_first = refl

-- in an update it cancels the cell, and nothing more is looked at
cancelling : dataset_of (sample 1 (codes "DSID" ∷ codes "DSSI" ∷ []) ((codes "EDTN", 0) ∷ (codes "UPDN", 3) ∷ (codes "PROF", 2) ∷ (codes "AGEN", 550) ∷ []) ∷ sample 2 (codes "VRID" ∷ []) [] ∷ []) ≡ Ok (record { header = record { key = codes "AA5TEST1"; edition = 0; update = 3; issued = codes "20240101"; agency = 550; scale = 0 }; base = false; cancels = true; changes = [] })
unfolding dataset_of general_of dataset_after
cancelling = refl

-- a base file without parameters
no_parameters : dataset_of (sample 1 (codes "DSID" ∷ []) ((codes "EDTN", 1) ∷ (codes "UPDN", 0) ∷ (codes "PROF", 1) ∷ (codes "AGEN", 550) ∷ []) ∷ sample 2 (codes "VRID" ∷ []) ((codes "RCNM", 110) ∷ (codes "RCID", 7) ∷ (codes "RVER", 1) ∷ []) ∷ []) ≡ Err (Profile (codes "DSPM"))
unfolding dataset_of general_of dataset_after checked_structure record_content vector_head coords_of vector_of ruin_of edit_of
no_parameters = refl

-- an isolated node with arcs, and a wrong kind of record before its missing number
with_arcs : vector_of true 2 (sample 2 (codes "VRID" ∷ codes "ARCC" ∷ []) ((codes "RCNM", 110) ∷ (codes "RCID", 7) ∷ (codes "RVER", 1) ∷ [])) ≡ Err (Profile (codes "ARCC"))
unfolding vector_head coords_of vector_of ruin_of edit_of
with_arcs = refl

wrong_kind : vector_of true 2 (sample 2 (codes "VRID" ∷ []) ((codes "RCNM", 100) ∷ [])) ≡ Err (Profile (codes "RCNM"))
unfolding vector_head vector_of
wrong_kind = refl

-- a primitive that is none, where the record inserts and where it doesn't
wrong_primitive : feature_of false 3 (sample 3 (codes "FRID" ∷ []) ((codes "RCNM", 100) ∷ (codes "RCID", 7) ∷ (codes "PRIM", 4) ∷ (codes "RUIN", 1) ∷ [])) ≡ Err (Value 3 (codes "PRIM"))
unfolding feature_head feature_of
wrong_primitive = refl

deleted_primitive : feature_of false 3 (sample 3 (codes "FRID" ∷ []) ((codes "RCNM", 100) ∷ (codes "RCID", 7) ∷ (codes "PRIM", 4) ∷ (codes "GRUP", 2) ∷ (codes "RUIN", 2) ∷ [])) ≡ Err (MissingField 3 (codes "OBJL"))
unfolding feature_head feature_of
deleted_primitive = refl

-- an inserted feature needs its identifier
no_identifier : feature_of true 3 (sample 3 (codes "FRID" ∷ []) ((codes "RCNM", 100) ∷ (codes "RCID", 7) ∷ (codes "PRIM", 255) ∷ (codes "GRUP", 2) ∷ (codes "OBJL", 42) ∷ (codes "RVER", 1) ∷ [])) ≡ Err (MissingField 3 (codes "FOID"))
unfolding feature_head feature_of ruin_of foid_of
no_identifier = refl

-- no general information in the first record
not_general : dataset_of (sample 1 (codes "VRID" ∷ []) [] ∷ []) ≡ Err NoGeneral
unfolding dataset_of
not_general = refl

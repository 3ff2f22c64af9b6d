-- The data set that the records of a file are, or the first fault by record.
use Rattle.std.specs.Prelude.{ℕ, suc, Bool, true, false, not, ◌&&◌, ◌==◌, if◌then◌else◌, List, [], ◌∷◌}
use Rattle.std.specs.Prelude.{map, filter_map, slice_get, codes, Option, Some, None, Result, Ok, Err}
use Rattle.chart_model.specs.declared.dataset.Header.{Header}
use Rattle.chart_model.specs.Answers.{◌>>=◌, or_fault}
use Rattle.chart_model.specs.Change.{Change}
use Rattle.chart_model.specs.Dataset.{DatasetValue}
use Rattle.s57_records.specs.declared.general.General.{General}
use Rattle.s57_records.specs.declared.fault.DatasetFault.{DatasetFault}
use Rattle.s57_records.specs.declared.fault.DatasetFault.TheVariants.{NoGeneral, Profile}
use Rattle.s57_records.specs.Subfields.{Subfields}
use Rattle.s57_records.specs.Rows.{general_of, checked_structure, scale_of, vector_of, feature_of}

-- what kind of record this is: by the first of these fields that it has
pub data Kind : Type 0 where
  general : Kind
  parameters : Kind
  vector : Kind
  feature : Kind
  other : Kind

abbrev pub kind_of : Subfields → Kind
kind_of s =
    if s.has (codes "DSID") then general
    else (if s.has (codes "DSPM") then parameters
    else (if s.has (codes "VRID") then vector else (if s.has (codes "FRID") then feature else other)))

abbrev pub is_parameters : Kind → Bool
is_parameters parameters = true
is_parameters general = false
is_parameters vector = false
is_parameters feature = false
is_parameters other = false

-- what one record after the first stands for: a change, the scale of a base file, or nothing
pub data Said : Type 0 where
  change_is : Change → Said
  scale_is : ℕ → Said
  nothing : Said

-- The record of number n. In an update the parameters aren't looked at.
unfoldable pub record_content : Bool → ℕ → Subfields → Kind → Result Said DatasetFault
record_content base n s vector = do
  change ← vector_of base n s
  Ok (change_is change)
record_content base n s feature = do
  change ← feature_of base n s
  Ok (change_is change)
record_content base n s parameters =
    if base then (do
      scale ← scale_of s
      Ok (scale_is scale))
    else Ok nothing
record_content base n s general = Ok nothing
record_content base n s other = Ok nothing

-- the records that are looked at, with their numbers: of several with parameters the first alone
abbrev pub records_looked_at : Bool → ℕ → List Subfields → List (ℕ × Subfields)
records_looked_at parameters_seen n [] = []
records_looked_at parameters_seen n (s ∷ rest) =
    if is_parameters (kind_of s)
    then (if parameters_seen then records_looked_at true (suc n) rest else (n, s) ∷ records_looked_at true (suc n) rest)
    else (n, s) ∷ records_looked_at parameters_seen (suc n) rest

-- each value, or the first fault
abbrev pub all_of : {A : Type 0} → List (Result A DatasetFault) → Result (List A) DatasetFault
all_of [] = Ok []
all_of (first ∷ rest) = do
  x ← first
  xs ← all_of rest
  Ok (x ∷ xs)

abbrev pub change_in : Said → Option Change
change_in (change_is change) = Some change
change_in (scale_is scale) = None
change_in nothing = None

abbrev pub scale_in : Said → Option ℕ
scale_in (change_is change) = None
scale_in (scale_is scale) = Some scale
scale_in nothing = None

-- the scale of a base file, which needs one, and 0 for an update
abbrev pub scale_among : Bool → List Said → Result ℕ DatasetFault
scale_among false said = Ok 0
scale_among true said = or_fault (Profile (codes "DSPM")) (slice_get (filter_map scale_in said) 0)

abbrev pub header_with : General → ℕ → Header
header_with g scale = record {
  key = g.key;
  edition = g.edition;
  update = g.update;
  issued = g.issued;
  agency = g.agency;
  scale = scale;
}

-- an update of edition 0 cancels its cell
abbrev pub cancels : General → Bool
cancels g = not g.base && (g.edition == 0)

-- The records after the first are looked at unless the file cancels its cell.
unfoldable pub dataset_after : General → Subfields → List Subfields → Result DatasetValue DatasetFault
dataset_after g first rest =
    if cancels g then Ok (record { header = header_with g 0; base = false; cancels = true; changes = [] }) else (do
      _ ← checked_structure first
      said ← all_of (map (λ r. record_content g.base r.0 r.1 (kind_of r.1)) (records_looked_at false 2 rest))
      scale ← scale_among g.base said
      Ok (record { header = header_with g scale; base = g.base; cancels = false; changes = filter_map change_in said }))

-- the data set of records whose subfields read so
unfoldable pub dataset_of : List Subfields → Result DatasetValue DatasetFault
dataset_of [] = Err NoGeneral
dataset_of (first ∷ rest) =
    if first.has (codes "DSID") then (do
      g ← general_of first
      dataset_after g first rest)
    else Err NoGeneral

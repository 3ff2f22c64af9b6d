-- The data set by what was gathered from the records before: the first scale, and the changes.
use Rattle.std.specs.Prelude.{ℕ, suc, Bool, true, false, ◌&&◌, not, is_some, if◌then◌else◌}
use Rattle.std.specs.Prelude.{List, [], ◌∷◌, ◌++◌, codes, Option, Some, None, Result, Ok, Err}
use Rattle.chart_model.specs.Answers.{◌>>=◌}
use Rattle.chart_model.specs.Change.{Change}
use Rattle.chart_model.specs.Dataset.{DatasetValue}
use Rattle.s57_records.specs.declared.general.General.{General}
use Rattle.s57_records.specs.declared.dataset.Gathered.{Gathered}
use Rattle.s57_records.specs.declared.fault.DatasetFault.{DatasetFault}
use Rattle.s57_records.specs.declared.fault.DatasetFault.TheVariants.{Profile}
use Rattle.s57_records.specs.Subfields.{Subfields}
use Rattle.s57_records.specs.Rows.{checked_structure, scale_of, vector_of, feature_of}
use Rattle.s57_records.specs.Dataset.{Kind, general, parameters, vector, feature, other, kind_of, header_with, cancels}

abbrev pub with_change : Gathered → Change → Gathered
with_change g change = record { scale = g.scale; changes = g.changes ++ change ∷ [] }

abbrev pub with_scale : Gathered → ℕ → Gathered
with_scale g scale = record { scale = Some scale; changes = g.changes }

-- what is gathered with the record of number n
unfoldable pub with_record : Bool → ℕ → Subfields → Kind → Gathered → Result Gathered DatasetFault
with_record base n s vector g = do
  change ← vector_of base n s
  Ok (with_change g change)
with_record base n s feature g = do
  change ← feature_of base n s
  Ok (with_change g change)
with_record base n s parameters g =
    if base && not (is_some g.scale) then (do
      scale ← scale_of s
      Ok (with_scale g scale))
    else Ok g
with_record base n s general g = Ok g
with_record base n s other g = Ok g

-- what is gathered with these records, from number n on
abbrev pub gather : Bool → ℕ → List Subfields → Gathered → Result Gathered DatasetFault
gather base n [] g = Ok g
gather base n (s ∷ rest) g = do
  more ← with_record base n s (kind_of s) g
  gather base (suc n) rest more

abbrev pub nothing_gathered : Gathered
nothing_gathered = record { scale = None; changes = [] }

abbrev pub needed_scale : Bool → Option ℕ → Result ℕ DatasetFault
needed_scale false scale = Ok 0
needed_scale true (Some scale) = Ok scale
needed_scale true None = Err (Profile (codes "DSPM"))

unfoldable pub dataset_gathered : General → Subfields → List Subfields → Result DatasetValue DatasetFault
dataset_gathered g first rest =
    if cancels g then Ok (record { header = header_with g 0; base = false; cancels = true; changes = [] }) else (do
      _ ← checked_structure first
      gathered ← gather g.base 2 rest nothing_gathered
      scale ← needed_scale g.base gathered.scale
      Ok (record { header = header_with g scale; base = g.base; cancels = false; changes = gathered.changes }))

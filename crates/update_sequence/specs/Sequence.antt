-- Lists of whole files that can be taken over, one after the other from nothing, without a refusal.
use Rattle.std.specs.Prelude.{◌≡◌, ◌≢◌, ◌↔◌, ℕ, nat_le, Bool, true, false, not, ◌&&◌, ◌||◌, List, [], ◌∷◌, ◌++◌, length}
use Rattle.std.specs.Prelude.{Option, Ok, Err, Result, IsOk, is_ok}
use Rattle.std.specs.Ordering.{eq_by_cmp}
use Rattle.chart_model.specs.Cell.{CellValue}
use Rattle.chart_model.specs.Dataset.{DatasetValue}
use Rattle.chart_model.specs.Keys.{key_cmp}
use Rattle.chart_model.specs.State.{IsFileLength}
use Rattle.chart_model.specs.declared.state.Held.{Held}
use Rattle.update_sequence.specs.Reading.{data_set_in}
use Rattle.update_sequence.specs.Judged.{judged}
use Rattle.update_sequence.specs.Built.{built}
use Rattle.update_sequence.specs.Rebuilt.{held_by, rebuilt}
use Rattle.update_sequence.specs.declared.fault.ReadFault.{ReadFault}

-- a file of the cell with this key that may follow those before it: a base file where none is, else an update
pub record Follows (key : List ℕ) (before : List (List ℕ)) (file : List ℕ) : Type 0 where
  pub dataset : DatasetValue
  pub short : IsFileLength (length file)
  pub reads : data_set_in file ≡ Ok dataset
  pub keyed : dataset.header.key ≡ key
  pub first : (dataset.base ≡ true) ↔ (before ≡ [])
  pub accepted : IsOk (judged (held_by before) dataset)
  pub builds : dataset.cancels ≡ false → IsOk (built (rebuilt before) dataset)

-- there is a file, and each may follow those before it
pub record IsUpdateSequence (key : List ℕ) (files : List (List ℕ)) : Type 0 where
  pub some : files ≢ []
  pub each : (before after : List (List ℕ)) (file : List ℕ) → files ≡ before ++ file ∷ after → Follows key before file

-- a whole file of the cell with this key that is this data set
pub record IsFileOf (key file : List ℕ) (dataset : DatasetValue) : Type 0 where
  pub short : IsFileLength (length file)
  pub reads : data_set_in file ≡ Ok dataset
  pub keyed : dataset.header.key ≡ key

-- files that can be taken over, and what they leave of their cell: the held numbers and the chart
pub record Leaves (key : List ℕ) (files : List (List ℕ)) (held : Option Held) (chart : Option CellValue) : Type 0 where
  pub sequence : IsUpdateSequence key files
  pub numbers : held_by files ≡ held
  pub builds : rebuilt files ≡ chart

-- ---- the same as tests

-- a base file comes first, and no other does
abbrev pub is_in_order : Bool → List (List ℕ) → Bool
is_in_order base [] = base
is_in_order base (file ∷ before) = not base

-- a data set of the cell with this key that may follow those files
abbrev pub is_next : List ℕ → List (List ℕ) → DatasetValue → Bool
is_next key before dataset =
    ((eq_by_cmp key_cmp dataset.header.key key && is_in_order dataset.base before)
    && is_ok (judged (held_by before) dataset))
    && (dataset.cancels || is_ok (built (rebuilt before) dataset))

abbrev pub is_next_read : List ℕ → List (List ℕ) → Result DatasetValue ReadFault → Bool
is_next_read key before (Ok dataset) = is_next key before dataset
is_next_read key before (Err fault) = false

-- whether a file may follow those files
abbrev pub may_follow : List ℕ → List (List ℕ) → List ℕ → Bool
may_follow key before file = nat_le (length file) 8388608 && is_next_read key before (data_set_in file)

-- whether files may follow those before them, one after the other
abbrev pub may_all_follow : List ℕ → List (List ℕ) → List (List ℕ) → Bool
may_all_follow key before [] = true
may_all_follow key before (file ∷ rest) =
    may_follow key before file && may_all_follow key (before ++ file ∷ []) rest

-- whether there is a file, and each may follow those before it
unfoldable pub is_update_sequence : List ℕ → List (List ℕ) → Bool
is_update_sequence key [] = false
is_update_sequence key (file ∷ rest) = may_all_follow key [] (file ∷ rest)

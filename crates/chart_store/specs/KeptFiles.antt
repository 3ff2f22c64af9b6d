-- What a rollback keeps of a cell's files: the shortest list that they begin with, that is an update sequence, and that
-- ends with a file that has the update number and doesn't cancel the cell.
use Rattle.std.specs.Prelude.{◌≡◌, ◌≢◌, ℕ, ◌==◌, Bool, false, not, ◌&&◌, List, [], ◌∷◌, ◌++◌, map, find}
use Rattle.std.specs.Prelude.{Option, Result, Ok, Err}
use Rattle.chart_model.specs.Dataset.{DatasetValue}
use Rattle.update_sequence.specs.Reading.{data_set_in}
use Rattle.update_sequence.specs.Sequence.{IsUpdateSequence, is_update_sequence}
use Rattle.update_sequence.specs.declared.fault.ReadFault.{ReadFault}

abbrev pub is_update : ℕ → Result DatasetValue ReadFault → Bool
is_update number (Ok dataset) = not dataset.cancels && (dataset.header.update == number)
is_update number (Err fault) = false

-- whether a file has this update number and doesn't cancel its cell
abbrev pub has_update : ℕ → List ℕ → Bool
has_update number file = is_update number (data_set_in file)

-- whether the last of the files is one
abbrev pub ends_with : ℕ → List (List ℕ) → Bool
ends_with number [] = false
ends_with number (file ∷ []) = has_update number file
ends_with number (file ∷ next ∷ rest) = ends_with number (next ∷ rest)

-- the lists that a list begins with, the shortest first
abbrev pub beginnings : {A : Type 0} → List A → List (List A)
beginnings [] = []
beginnings (x ∷ xs) = (x ∷ []) ∷ map (λ begun. x ∷ begun) (beginnings xs)

-- whether a rollback of the cell with this key to the number may keep these files
abbrev pub may_keep : List ℕ → ℕ → List (List ℕ) → Bool
may_keep key number files = is_update_sequence key files && ends_with number files

-- the files that it keeps
unfoldable pub kept_by : List ℕ → ℕ → List (List ℕ) → Option (List (List ℕ))
kept_by key number files = find (may_keep key number) (beginnings files)

-- ---- the same as a relation

-- the last of the files has this update number, and doesn't cancel the cell
pub record EndsWith (number : ℕ) (files : List (List ℕ)) : Type 0 where
  pub before : List (List ℕ)
  pub last : List ℕ
  pub dataset : DatasetValue
  pub parts : files ≡ before ++ last ∷ []
  pub reads : data_set_in last ≡ Ok dataset
  pub stands : dataset.cancels ≡ false
  pub numbered : dataset.header.update ≡ number

-- files that a rollback may keep
pub record MayKeep (key : List ℕ) (number : ℕ) (files : List (List ℕ)) : Type 0 where
  pub sequence : IsUpdateSequence key files
  pub ends : EndsWith number files

-- the shortest of those that the files begin with
pub record IsShortestKept (key : List ℕ) (number : ℕ) (files kept : List (List ℕ)) : Type 0 where
  pub rest : List (List ℕ)
  pub begins : files ≡ kept ++ rest
  pub may : MayKeep key number kept
  pub shortest : (less more : List (List ℕ)) → kept ≡ less ++ more → more ≢ [] → ¬ MayKeep key number less

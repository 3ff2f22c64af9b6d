-- The cell files that a catalogue lists, each by its first entry.
use Rattle.std.specs.BTreeMap.{BTreeMap, IsOrdered, get}
use Rattle.std.specs.Prelude.{◌≡◌, ℕ, List, map, Option, option_map, Result}
use Rattle.std.specs.List.{position_from}
use Rattle.chart_model.specs.Answers.{unless}
use Rattle.chart_model.specs.Keys.{key_cmp}
use Rattle.exchange_catalogue.specs.Orders.{stem_of, number_of, has_path, paths_fault}
use Rattle.exchange_catalogue.specs.declared.cell_file.CellFile.{CellFile}
use Rattle.exchange_catalogue.specs.declared.cell_file.Rank.{Rank}
use Rattle.exchange_catalogue.specs.declared.entry.Entry.{Entry}
use Rattle.exchange_catalogue.specs.declared.fault.OrderFault.{OrderFault}

-- what a path stands by
abbrev pub rank_at : List ℕ → ℕ → Rank
rank_at path place = record { stem = stem_of path; number = number_of path; place = place }

abbrev pub file_at : ℕ → List ℕ → CellFile
file_at place path = record { rank = rank_at path place; path = path }

-- the rank by the first of the entries, which are counted from this place, that is a cell file with this path
abbrev pub first_rank : ℕ → List Entry → List ℕ → Option Rank
first_rank place entries path = option_map (rank_at path) (position_from (has_path path) place entries)

-- nothing, or the first bad path
abbrev pub paths_check : List Entry → Result (Unit {0}) OrderFault
paths_check entries = unless (paths_fault entries) tt

-- the files of a map from paths to ranks
abbrev pub file_of : List ℕ × Rank → CellFile
file_of one = record { rank = one.1; path = one.0 }

-- the files are those of a map from the path of each cell file to its rank by its first entry
pub record AreFirst (entries : List Entry) (files : List CellFile) : Type 0 where
  pub ranks : BTreeMap (List ℕ) Rank
  pub ordered : IsOrdered key_cmp ranks
  pub first : (path : List ℕ) → get key_cmp ranks path ≡ first_rank 0 entries path
  pub listed : files ≡ map file_of ranks.entries

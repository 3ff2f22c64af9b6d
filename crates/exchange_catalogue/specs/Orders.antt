-- The order in which the cell files of a catalogue are loaded.
use Rattle.std.specs.Prelude.{◌≡◌, ◌↔◌, ℕ, Bool, false, ◌==◌, nat_lt, List, [], ◌∷◌, length, filter_map, fold, map}
use Rattle.std.specs.Prelude.{Option, Some, None, Result, Contains, AllPairs}
use Rattle.std.specs.List.{position_from}
use Rattle.std.specs.Option.{option_map_or, unwrap_or, option_and_then}
use Rattle.std.specs.Ordering.{ordering_then, nat_cmp}
use Rattle.std.specs.Cmp.Lexicographic.{slice_cmp}
use Rattle.std.specs.Str.{bytes_eq}
use Rattle.std.specs.declared.cmp.Ordering.{Ordering}
use Rattle.std.specs.declared.cmp.Ordering.TheVariants.{Less, Equal, Greater}
use Rattle.chart_model.specs.Answers.{when, first_of, unless}
use Rattle.exchange_catalogue.specs.CellNames.{CellNameValue, cell_name_of}
use Rattle.exchange_catalogue.specs.Paths.{name_of, cell_path_of, is_bad_path}
use Rattle.exchange_catalogue.specs.declared.entry.Entry.{Entry}
use Rattle.exchange_catalogue.specs.declared.fault.OrderFault.{OrderFault}
use Rattle.exchange_catalogue.specs.declared.fault.OrderFault.TheVariants.{BadPath, Many, Empty}

-- the paths of the cell files, in the order of their entries
abbrev pub cell_paths : List Entry → List (List ℕ)
cell_paths entries = filter_map cell_path_of entries

-- ---- the order of paths

-- of a cell file's name the bytes before the last dot, and the number behind it
unfoldable pub stem_of : List ℕ → List ℕ
stem_of path = option_map_or (λ cell. cell.stem) (cell_name_of (name_of path)) []

unfoldable pub number_of : List ℕ → ℕ
number_of path = option_map_or (λ cell. cell.number) (cell_name_of (name_of path)) 0

-- the entry is a cell file with this path
abbrev pub has_path : List ℕ → Entry → Bool
has_path path entry = option_map_or (bytes_eq path) (cell_path_of entry) false

-- how many entries stand before the first that is a cell file with this path
unfoldable pub place_of : List Entry → List ℕ → ℕ
place_of entries path = unwrap_or (position_from (has_path path) 0 entries) 0

-- by the bytes before the dot, then by the number, then by the place of the path's first entry
abbrev pub load_cmp : List Entry → List ℕ → List ℕ → Ordering
load_cmp entries a b =
    ordering_then (slice_cmp nat_cmp (stem_of a) (stem_of b))
    (ordering_then (nat_cmp (number_of a) (number_of b)) (nat_cmp (place_of entries a) (place_of entries b)))

-- ---- the load order

-- the paths of the cell files, in that order and each once
pub record IsLoadOrder (entries : List Entry) (order : List (List ℕ)) : Type 0 where
  pub paths : (path : List ℕ) → Contains order path ↔ Contains (cell_paths entries) path
  pub ordered : AllPairs (λ a b. load_cmp entries a b ≡ Less) order

-- ---- as a function

-- a path put among others in order; one that is there already isn't put twice
abbrev pub put_by : Ordering → List ℕ → List ℕ → List (List ℕ) → List (List ℕ) → List (List ℕ)
put_by Less path next rest behind = path ∷ next ∷ rest
put_by Equal path next rest behind = next ∷ rest
put_by Greater path next rest behind = next ∷ behind

unfoldable pub put_among : List Entry → List ℕ → List (List ℕ) → List (List ℕ)
put_among entries path [] = path ∷ []
put_among entries path (next ∷ rest) =
    put_by (load_cmp entries path next) path next rest (put_among entries path rest)

-- the paths of the cell files, each put among those before it
unfoldable pub load_order_of : List Entry → List (List ℕ)
load_order_of entries = fold (λ order path. put_among entries path order) [] (cell_paths entries)

-- ---- the faults

-- a cell file with a bad path
abbrev pub path_fault : Entry → Option OrderFault
path_fault entry = option_and_then (λ path. when (is_bad_path path) (BadPath entry.number)) (cell_path_of entry)

-- the first of them by record
abbrev pub paths_fault : List Entry → Option OrderFault
paths_fault entries = first_of (map path_fault entries)

-- else there are too many paths, or none
abbrev pub count_fault : ℕ → Option OrderFault
count_fault count = first_of (when (nat_lt 1000 count) (Many count) ∷ when (count == 0) Empty ∷ [])

abbrev pub order_fault : List Entry → Option OrderFault
order_fault entries = first_of (paths_fault entries ∷ count_fault (length (load_order_of entries)) ∷ [])

-- the load order of the entries, or what is wrong
unfoldable pub load_order_in : List Entry → Result (List (List ℕ)) OrderFault
load_order_in entries = unless (order_fault entries) (load_order_of entries)

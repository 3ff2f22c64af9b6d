-- The paths of files in an exchange set.
use Rattle.std.specs.Prelude.{ℕ, Bool, false, ◌&&◌, ◌||◌, ◌==◌, nat_lt, if◌then◌else◌, List, length, map, codes}
use Rattle.std.specs.Prelude.{slice_get}
use Rattle.std.specs.Prelude.{Option, Some, None, is_some}
use Rattle.std.specs.List.{after_last, list_any, slice_split}
use Rattle.std.specs.Option.{option_map_or}
use Rattle.std.specs.Str.{bytes_eq}
use Rattle.exchange_catalogue.specs.CellNames.{cell_name_of}
use Rattle.exchange_catalogue.specs.declared.entry.Entry.{Entry}

-- whether the byte is the `/` that parts a path
abbrev pub is_slash : ℕ → Bool
is_slash byte = byte == 47

-- the path that a text is: with each `\` turned into `/`
abbrev pub slashed : ℕ → ℕ
slashed byte = if byte == 92 then 47 else byte

abbrev pub path_of : List ℕ → List ℕ
path_of file = map slashed file

-- the name of the file: what follows the last `/`, and all where there is none
abbrev pub name_of : List ℕ → List ℕ
name_of path = after_last is_slash path

-- ---- cell files

-- the path of the file that an entry lists, where it is a cell file: a binary one with the name of a cell file
abbrev pub cell_path_of : Entry → Option (List ℕ)
cell_path_of entry =
    if entry.binary && is_some (cell_name_of (name_of (path_of entry.file))) then Some (path_of entry.file) else None

-- ---- paths that are not fetched

-- no printable ASCII character
abbrev pub is_unprintable : ℕ → Bool
is_unprintable byte = nat_lt byte 32 || nat_lt 126 byte

-- the first byte is `/`
abbrev pub is_rooted : List ℕ → Bool
is_rooted path = option_map_or is_slash (slice_get path 0) false

-- between two `/`, or before the first, or behind the last, stands `..`
abbrev pub has_parent : List ℕ → Bool
has_parent path = list_any (λ part. bytes_eq part (codes "..")) (slice_split is_slash path)

-- the path is over 255 bytes long, or has such a byte, begins with `/`, or has a part `..`
unfoldable pub is_bad_path : List ℕ → Bool
is_bad_path path =
    nat_lt 255 (length path) || (list_any is_unprintable path || (is_rooted path || has_parent path))

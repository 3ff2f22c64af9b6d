-- The names of cell files (S-57 Appendix B.1, file naming): something, a dot and the three digits of a number.
use Rattle.std.specs.Prelude.{◌≡◌, ℕ, ◌+◌, ◌-◌, ◌<◌, ◌==◌, nat_lt, ◌&&◌, if◌then◌else◌, List, ◌∷◌, ◌++◌, length, take}
use Rattle.std.specs.Prelude.{drop}
use Rattle.std.specs.Prelude.{slice_index, Option, None, option_map}
use Rattle.text_scan.specs.Number.{IsNumber, value_of, number_of}

-- the bytes before the last dot, and the number of the digits behind it
pub record CellNameValue : Type 0 where
  pub stem : List ℕ
  pub number : ℕ

-- the name is the cell file's: at least one byte, a dot, and three digits
pub record SpellsCellName (name : List ℕ) (cell : CellNameValue) : Type 0 where
  pub digits : List ℕ
  pub parts : name ≡ cell.stem ++ 46 ∷ digits
  pub some : 0 < length cell.stem
  pub three : length digits ≡ 3
  pub number : IsNumber digits
  pub value : cell.number ≡ value_of digits

-- the cell file that a name is, where it is one: its fourth last byte is a dot, the three behind that are a number, and
-- something stands before it
unfoldable pub cell_name_of : List ℕ → Option CellNameValue
cell_name_of name =
    if nat_lt 4 (length name) && (slice_index name (length name - 4) == 46)
    then option_map (λ number. record { stem = take (length name - 4) name; number = number })
    (number_of (drop (length name - 3) name))
    else None

-- What a line of a catalogue is.
use Rattle.std.specs.Prelude.{◌≡◌, ℕ, nat_le, ◌&&◌, if◌then◌else◌, List, [], ◌∷◌, codes, Option, Some, None}
use Rattle.std.specs.Prelude.{option_and_then}
use Rattle.std.specs.List.{join_with_byte}
use Rattle.std.specs.Str.{bytes_eq}
use Rattle.std.specs.Int.{IsInRange}
use Rattle.text_scan.specs.Number.{IsNumber, value_of, number_of}
use Rattle.text_lines.specs.Lines.{IsSilent, words_of}
use Rattle.object_catalogue.specs.Acronym.{IsAcronym, acronym_of}
use Rattle.object_catalogue.specs.declared.entry.Kind.{Kind}
use Rattle.object_catalogue.specs.declared.entry.Kind.TheVariants.{Class, Attribute}
use Rattle.object_catalogue.specs.declared.entry.Entry.{Entry}

-- the word that tells the kind
abbrev pub letter_of : Kind → List ℕ
letter_of Class = codes "O"
letter_of Attribute = codes "A"

-- the line is the entry's kind, the digits of its code and its acronym, parted by single spaces
pub record Spells (line : List ℕ) (entry : Entry) : Type 0 where
  pub digits : List ℕ
  pub parted : line ≡ join_with_byte 32 (letter_of entry.kind ∷ digits ∷ entry.acronym ∷ [])
  pub number : IsNumber digits
  pub value : entry.code ≡ value_of digits
  pub range : IsInRange 1 65535 entry.code
  pub acronym : IsAcronym entry.acronym

-- a line that says something and is no entry
pub record IsBad (line : List ℕ) : Type 0 where
  pub speaks : ¬ IsSilent line
  pub no_entry : (entry : Entry) → ¬ Spells line entry

-- ---- as a function

abbrev pub kind_of : List ℕ → Option Kind
kind_of word =
    if bytes_eq word (codes "O") then Some Class
    else if bytes_eq word (codes "A") then Some Attribute
    else None

abbrev pub in_range : ℕ → Option ℕ
in_range n = if nat_le 1 n && nat_le n 65535 then Some n else None

abbrev pub code_of : List ℕ → Option ℕ
code_of digits = option_and_then in_range (number_of digits)

-- an entry, where each of its parts is there
abbrev pub entry_with : Option Kind → Option ℕ → Option (List ℕ) → Option Entry
entry_with (Some kind) (Some code) (Some acronym) = Some (record { kind = kind; code = code; acronym = acronym })
entry_with (Some kind) (Some code) None = None
entry_with (Some kind) None acronym = None
entry_with None code acronym = None

-- the entry that words are
unfoldable pub entry_in : List (List ℕ) → Option Entry
entry_in [] = None
entry_in (word ∷ []) = None
entry_in (word ∷ digits ∷ []) = None
entry_in (word ∷ digits ∷ acronym ∷ []) = entry_with (kind_of word) (code_of digits) (acronym_of acronym)
entry_in (word ∷ digits ∷ acronym ∷ other ∷ more) = None

-- the entry that a line is
abbrev pub entry_of : List ℕ → Option Entry
entry_of line = entry_in (words_of line)

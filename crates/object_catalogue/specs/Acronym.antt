-- The acronyms of object classes and attributes (S-57 Appendix A).
use Rattle.std.specs.Prelude.{◌≡◌, ◌⊎◌, ℕ, ◌≤◌, nat_le, Bool, ◌&&◌, ◌||◌, ◌==◌, List, length, All}
use Rattle.std.specs.Prelude.{Option, Some, None, if◌then◌else◌}
use Rattle.std.specs.List.{list_all}

-- a capital letter, a digit or `_`
abbrev pub IsAcronymByte : ℕ → Type 0
IsAcronymByte byte = ((65 ≤ byte) × (byte ≤ 90)) ⊎ (((48 ≤ byte) × (byte ≤ 57)) ⊎ (byte ≡ 95))

-- six of them
pub record IsAcronym (text : List ℕ) : Type 0 where
  pub long : length text ≡ 6
  pub spelled : All IsAcronymByte text

-- the same as tests
abbrev pub is_acronym_byte : ℕ → Bool
is_acronym_byte byte = (nat_le 65 byte && nat_le byte 90) || ((nat_le 48 byte && nat_le byte 57) || (byte == 95))

unfoldable pub is_acronym : List ℕ → Bool
is_acronym text = (length text == 6) && list_all is_acronym_byte text

-- the acronym that a text is, where it is one
abbrev pub acronym_of : List ℕ → Option (List ℕ)
acronym_of text = if is_acronym text then Some text else None

-- What the descriptor of a field says: its subfields in order, and where they begin to repeat.
use Rattle.std.specs.Prelude.{◌≡◌, ℕ, ◌≤◌, ◌%◌, ◌⊎◌, List, length, Option, IfSome}
use Rattle.std.specs.List.{AllByRecursion}
use Rattle.iso8211_formats.specs.declared.format.Format.{Format}
use Rattle.iso8211_formats.specs.declared.format.Format.TheVariants.{TextOpen, Text, Unsigned, Signed, Bits}

-- the labels of the subfields, how each is spelled, and the place, from 1, of the label from which on they repeat
pub record Layout : Type 0 where
  pub labels : List (List ℕ)
  pub formats : List Format
  pub repeats_from : Option ℕ

-- a width in bytes or bits
abbrev pub IsWidth : ℕ → Type 0
IsWidth width = (1 ≤ width) × (width ≤ 99999)

-- the bytes that a binary number takes
abbrev pub IsBinarySize : ℕ → Type 0
IsBinarySize size = (size ≡ 1) ⊎ ((size ≡ 2) ⊎ (size ≡ 4))

-- a format with a width or a size that it may have: so each value takes at least one byte
abbrev pub IsFormat : Format → Type 0
IsFormat TextOpen = Unit {0}
IsFormat (Text width) = IsWidth width
IsFormat (Unsigned size) = IsBinarySize size
IsFormat (Signed size) = IsBinarySize size
IsFormat (Bits width) = IsWidth width × (width % 8 ≡ 0)

-- 1 to 64 subfields, each with a label and a format with its width, and a group that begins at one of them
pub record IsLayout (layout : Layout) : Type 0 where
  pub present : 1 ≤ length layout.labels
  pub few : length layout.labels ≤ 64
  pub as_many : length layout.formats ≡ length layout.labels
  pub each : AllByRecursion IsFormat layout.formats
  pub begins : IfSome layout.repeats_from (λ place. (1 ≤ place) × (place ≤ length layout.labels))

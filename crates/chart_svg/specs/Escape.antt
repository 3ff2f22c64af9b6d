-- Text within a document.
use Rattle.std.specs.Prelude.{◌≢◌, ℕ, ◌+◌, ◌≤◌, nat_le, nat_lt, ◌==◌, Bool, not, ◌&&◌, if◌then◌else◌, pos, List, [], ◌∷◌}
use Rattle.std.specs.Prelude.{◌++◌, codes}
use Rattle.std.specs.List.{flat_map}
use Rattle.text_scan.specs.Written.{decimal_of}

-- a visible ASCII character or a space, and not one by which a document is parted: neither " nor & nor < nor >
abbrev pub is_plain : ℕ → Bool
is_plain byte =
    (nat_le 32 byte && nat_le byte 126)
    && ((not (byte == 34) && not (byte == 38)) && (not (byte == 60) && not (byte == 62)))

-- the character that stands for any other byte: of a control its picture (from U+2400 on), which a document may have
-- where it may not have the control itself; and else the character of that number
abbrev pub shown_as : ℕ → ℕ
shown_as byte = if nat_lt byte 32 then 9216 + byte else byte

-- a reference to a character
abbrev pub reference : ℕ → List ℕ
reference character = codes "&#" ++ decimal_of (pos character) ++ codes ";"

abbrev pub escaped_byte : ℕ → List ℕ
escaped_byte byte = if is_plain byte then byte ∷ [] else reference (shown_as byte)

-- a text within a document, each byte for itself
abbrev pub escaped : List ℕ → List ℕ
escaped text = flat_map escaped_byte text

-- a visible ASCII character or a space, and none that ends an attribute or a text or begins an element
pub record IsQuiet (byte : ℕ) : Type 0 where
  pub low : 32 ≤ byte
  pub high : byte ≤ 126
  pub no_quote : byte ≢ 34
  pub no_less : byte ≢ 60
  pub no_greater : byte ≢ 62

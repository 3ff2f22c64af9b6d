-- The values of a field and how they are spelled (ISO/IEC 8211, user data).
use Rattle.std.specs.Prelude.{◌≡◌, ◌≢◌, ℕ, zero, suc, ◌+◌, ◌-◌, ◌*◌, ◌/◌, ◌^◌, ◌<◌, List, [], ◌∷◌, ◌++◌, length, take}
use Rattle.std.specs.Prelude.{drop, Option, Some, None, ℤ, pos, ◌-ℤ◌, nat_lt, if◌then◌else◌, ◌⊎◌}
use Rattle.std.specs.List.{AllByRecursion}
use Rattle.iso8211_formats.specs.Layout.{Layout}
use Rattle.iso8211_formats.specs.declared.format.Format.{Format}
use Rattle.iso8211_formats.specs.declared.format.Format.TheVariants.{TextOpen, Text as TextOf, Unsigned, Signed}
use Rattle.iso8211_formats.specs.declared.format.Format.TheVariants.{Bits as BitsOf}
use Rattle.iso8211_records.specs.declared.value.Value.{Value}
use Rattle.iso8211_records.specs.declared.value.Value.TheVariants.{Number, Text, Bits}
use Rattle.chart_model.specs.Codes.{FIELD_TERMINATOR, UNIT_TERMINATOR}

-- the number that bytes are, the least significant first
unfoldable pub unsigned_of : List ℕ → ℕ
unsigned_of [] = 0
unsigned_of (byte ∷ bytes) = byte + 256 * unsigned_of bytes

-- the same in two's complement: the upper half of so many bytes' numbers stands for the negative ones
unfoldable pub signed_of : List ℕ → ℤ
signed_of bytes =
    let whole = 256 ^ length bytes in
    if nat_lt (2 * unsigned_of bytes) whole then pos (unsigned_of bytes) else pos (unsigned_of bytes) -ℤ pos whole

-- a binary number has 1, 2 or 4 bytes
abbrev pub IsNumberSize : ℕ → Type 0
IsNumberSize size = (size ≡ 1) ⊎ ((size ≡ 2) ⊎ (size ≡ 4))

-- a byte of a text that ends at a unit terminator
abbrev pub IsTextByte : ℕ → Type 0
IsTextByte byte = (byte ≢ FIELD_TERMINATOR) × (byte ≢ UNIT_TERMINATOR)

-- the bytes are the value's spelling by the format
abbrev pub Spells : Format → Value → List ℕ → Type 0
Spells TextOpen (Text text) bytes = AllByRecursion IsTextByte text × (bytes ≡ text ++ UNIT_TERMINATOR ∷ [])
Spells (TextOf width) (Text text) bytes = (0 < width) × (length text ≡ width) × (bytes ≡ text)
Spells (Unsigned size) (Number number) bytes =
    IsNumberSize size × (length bytes ≡ size) × (number ≡ pos (unsigned_of bytes))
Spells (Signed size) (Number number) bytes = IsNumberSize size × (length bytes ≡ size) × (number ≡ signed_of bytes)
Spells (BitsOf count) (Bits bits) bytes = (0 < count / 8) × (length bits ≡ count / 8) × (bytes ≡ bits)
Spells _ _ bytes = ⊥

-- the bytes are spellings one after the other, one of each value, by the format in its place
abbrev pub AreSpelled : List Format → List Value → List ℕ → Type 0
AreSpelled [] [] bytes = bytes ≡ []
AreSpelled (format ∷ formats) (value ∷ values) bytes =
    (front rest : List ℕ) × (bytes ≡ front ++ rest) × Spells format value front × AreSpelled formats values rest
AreSpelled _ _ bytes = ⊥

-- how the subfields of a field are spelled: those that stand once, and those of a group that is repeated
pub record FieldFormats : Type 0 where
  pub once : List Format
  pub group : List Format

-- the formats before the place, from 1, at which a group begins, and those from there on
abbrev pub formats_from : Option ℕ → List Format → FieldFormats
formats_from None formats = record { once = formats; group = [] }
formats_from (Some first) formats = record { once = take (first - 1) formats; group = drop (first - 1) formats }

-- the formats of a layout
abbrev pub formats_in : Layout → FieldFormats
formats_in layout = formats_from layout.repeats_from layout.formats

-- the formats of so many groups
abbrev pub groups : ℕ → List Format → List Format
groups zero group = []
groups (suc count) group = group ++ groups count group

-- the formats of a field that has so many groups
abbrev pub with_groups : ℕ → FieldFormats → List Format
with_groups count formats = formats.once ++ groups count formats.group

-- the text is that of a field: each subfield once up to the group, and then any number of whole groups
abbrev pub IsFieldText : FieldFormats → List Value → List ℕ → Type 0
IsFieldText formats values text = (count : ℕ) × AreSpelled (with_groups count formats) values text

-- the bytes are a field: its text and a field terminator
abbrev pub IsField : FieldFormats → List Value → List ℕ → Type 0
IsField formats values bytes =
    (text : List ℕ) × (bytes ≡ text ++ FIELD_TERMINATOR ∷ []) × IsFieldText formats values text

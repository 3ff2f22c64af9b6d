-- Reading the values of a field from left to right.
use Rattle.std.specs.Prelude.{◌≡◌, ℕ, zero, suc, ◌+◌, ◌/◌, Bool, ◌&&◌, ◌||◌, ◌==◌, nat_lt, nat_le, List, [], ◌∷◌}
use Rattle.std.specs.Prelude.{◌++◌, length, take, drop, slice_index, position, Option, Some, None, if◌then◌else◌, pos}
use Rattle.std.specs.Prelude.{Result, Ok, Err}
use Rattle.iso8211_formats.specs.Reading.{◌>>=◌}
use Rattle.iso8211_formats.specs.declared.format.Format.{Format}
use Rattle.iso8211_formats.specs.declared.format.Format.TheVariants.{TextOpen, Text as TextOf, Unsigned, Signed}
use Rattle.iso8211_formats.specs.declared.format.Format.TheVariants.{Bits as BitsOf}
use Rattle.iso8211_records.specs.declared.value.Value.{Value}
use Rattle.iso8211_records.specs.declared.value.Value.TheVariants.{Number, Text, Bits}
use Rattle.iso8211_records.specs.declared.fault.ValuesFault.{ValuesFault}
use Rattle.iso8211_records.specs.declared.fault.ValuesFault.TheVariants.{Unspelled, NoMemory}
use Rattle.chart_model.specs.Codes.{FIELD_TERMINATOR, UNIT_TERMINATOR}
use Rattle.iso8211_records.specs.Spelling.{unsigned_of, signed_of, FieldFormats}

-- A reader of a field failed so: there is nothing to be read, unless memory ran out.
abbrev pub Lacks : {Y : Type 0} → ValuesFault → Option Y → Type 0
Lacks Unspelled read = read ≡ None
Lacks NoMemory read = Unit {0}

-- What a reader of a field returned, seen by view, is what there is to be read, unless memory ran out.
abbrev pub Finds : {X Y : Type 0} → (X → Y) → Result X ValuesFault → Option Y → Type 0
Finds view (Ok x) read = read ≡ Some (view x)
Finds view (Err fault) read = Lacks fault read

-- what was read, behind what was read before it
abbrev pub before_all : {A : Type 0} → List A → Option (List A) → Option (List A)
before_all front read = read >>= λ more. Some (front ++ more)

abbrev pub before : List Value → Option (List Value × List ℕ) → Option (List Value × List ℕ)
before values read = read >>= λ more. Some (values ++ more.0, more.1)

-- so many bytes from the front, at least one, and the bytes after them
unfoldable pub front_at : ℕ → List ℕ → Option (List ℕ × List ℕ)
front_at size bytes =
    if nat_lt 0 size && nat_le size (length bytes) then Some (take size bytes, drop size bytes) else None

-- the bytes of a binary number of this size, and none of another
abbrev pub number_size : ℕ → ℕ
number_size size = if (size == 1) || ((size == 2) || (size == 4)) then size else 0

-- whether a text that ends at a unit terminator can't go on with the byte
abbrev pub is_terminator : ℕ → Bool
is_terminator byte = (byte == FIELD_TERMINATOR) || (byte == UNIT_TERMINATOR)

-- the text up to a unit terminator, and the bytes after that
unfoldable pub open_text_at : List ℕ → Option (List ℕ × List ℕ)
open_text_at bytes = do
  end ← position is_terminator bytes
  if slice_index bytes end == UNIT_TERMINATOR then Some (take end bytes, drop (end + 1) bytes) else None

-- the value at the front, and the bytes after it
unfoldable pub value_at : Format → List ℕ → Option (Value × List ℕ)
value_at TextOpen bytes = do
  text ← open_text_at bytes
  Some (Text text.0, text.1)
value_at (TextOf width) bytes = do
  text ← front_at width bytes
  Some (Text text.0, text.1)
value_at (Unsigned size) bytes = do
  number ← front_at (number_size size) bytes
  Some (Number (pos (unsigned_of number.0)), number.1)
value_at (Signed size) bytes = do
  number ← front_at (number_size size) bytes
  Some (Number (signed_of number.0), number.1)
value_at (BitsOf count) bytes = do
  bits ← front_at (count / 8) bytes
  Some (Bits bits.0, bits.1)

-- a value by each format, and the bytes after them
unfoldable pub values_at : List Format → List ℕ → Option (List Value × List ℕ)
values_at [] bytes = Some ([], bytes)
values_at (format ∷ formats) bytes = do
  value ← value_at format bytes
  values ← values_at formats value.1
  Some (value.0 ∷ values.0, values.1)

-- whole groups up to the end of the bytes, at most so many
unfoldable pub groups_at : ℕ → List Format → List ℕ → Option (List Value)
groups_at bound group [] = Some []
groups_at zero group (byte ∷ bytes) = None
groups_at (suc bound) group (byte ∷ bytes) = do
  values ← values_at group (byte ∷ bytes)
  more ← groups_at bound group values.1
  Some (values.0 ++ more)

-- the values of a field's text
unfoldable pub values_of : FieldFormats → List ℕ → Option (List Value)
values_of formats text = do
  values ← values_at formats.once text
  more ← groups_at (length values.1) formats.group values.1
  Some (values.0 ++ more)

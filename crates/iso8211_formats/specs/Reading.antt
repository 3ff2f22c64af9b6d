-- The layout that a data descriptive field spells, where it spells one: the field is cut at its unit terminators,
-- its labels are found by their places, and its format controls are cut at their commas.
use Rattle.std.specs.Prelude.{ℕ, suc, ◌-◌, ◌%◌, Bool, true, false, ◌&&◌, ◌||◌, ◌==◌, nat_lt, nat_le, if◌then◌else◌}
use Rattle.std.specs.Prelude.{List, [], ◌∷◌, ◌++◌, length, drop, replicate, Option, Some, None, option_map}
use Rattle.std.specs.List.{slice_split}
use Rattle.std.specs.Char.{is_ascii_digit}
use Rattle.std.specs.Str.{all_ascii_digits}
use Rattle.std.specs.Str.Parse.{digits_value}
use Rattle.std.specs.Option.{option_and_then, option_or}
use Rattle.iso8211_formats.specs.declared.format.Format.{Format}
use Rattle.iso8211_formats.specs.declared.format.Format.TheVariants.{TextOpen, Text, Unsigned, Signed, Bits}
use Rattle.iso8211_formats.specs.Layout.{Layout}
use Rattle.iso8211_formats.specs.Terminators.{field_terminator, unit_terminator}

infixl 10 ◌>>=◌
abbrev pub ◌>>=◌ : {A B : Type 0} → Option A → (A → Option B) → Option B
value >>= next = option_and_then next value

abbrev pub is_empty : List ℕ → Bool
is_empty [] = true
is_empty (x ∷ xs) = false

-- x where it is so
abbrev pub when : {A : Type 0} → Bool → A → Option A
when so x = if so then Some x else None

-- what stands before the first such byte, and what stands after it
unfoldable pub cut_at : ℕ → List ℕ → Option (List ℕ × List ℕ)
cut_at byte [] = None
cut_at byte (x ∷ xs) =
    if x == byte then Some ([], xs) else option_map (λ parts. (x ∷ parts.0, parts.1)) (cut_at byte xs)

-- ---- numbers

-- the number from 1 to 99,999 that the digits write
unfoldable pub counting_number_of : List ℕ → Option ℕ
counting_number_of digits =
    when (all_ascii_digits digits && (nat_lt 0 (digits_value 10 digits) && nat_lt (digits_value 10 digits) 100000))
    (digits_value 10 digits)

-- the digits at the front, and what follows them
unfoldable pub digits_and_rest : List ℕ → List ℕ × List ℕ
digits_and_rest [] = ([], [])
digits_and_rest (x ∷ xs) =
    if is_ascii_digit x then (x ∷ (digits_and_rest xs).0, (digits_and_rest xs).1) else ([], x ∷ xs)

-- how often an item counts: once where there are no digits
unfoldable pub count_of : List ℕ → Option ℕ
count_of [] = Some 1
count_of (digit ∷ digits) = counting_number_of (digit ∷ digits)

-- ---- formats

abbrev pub is_text_letter : ℕ → Bool
is_text_letter letter = letter == 65 || (letter == 73 || letter == 82)

-- `A`, `I` or `R`
unfoldable pub open_format : ℕ → Option Format
open_format letter = when (is_text_letter letter) TextOpen

-- `b11` and its kin, without the `b`
unfoldable pub binary_format : ℕ → ℕ → Option Format
binary_format sign digit = do
  size ← when (digit == 49 || (digit == 50 || digit == 52)) (digit - 48)
  if sign == 49 then Some (Unsigned size) else when (sign == 50) (Signed size)

-- a letter with a width
unfoldable pub format_with : ℕ → ℕ → Option Format
format_with letter width =
    if is_text_letter letter then Some (Text width) else when (letter == 66 && (width % 8 == 0)) (Bits width)

-- what stands behind a letter and `(`: `)`, which only `A` may have, or a width and `)`
unfoldable pub sized_format : ℕ → List ℕ → Option Format
sized_format letter inner = do
  parts ← cut_at 41 inner
  digits ← when (is_empty parts.1) parts.0
  if is_empty digits then when (letter == 65) TextOpen else (counting_number_of digits >>= format_with letter)

unfoldable pub format_of : List ℕ → Option Format
format_of [] = None
format_of (letter ∷ []) = open_format letter
format_of (letter ∷ second ∷ []) = None
format_of (letter ∷ second ∷ third ∷ rest) =
    if second == 40 then sized_format letter (third ∷ rest)
    else (when (letter == 98 && is_empty rest) third >>= binary_format second)

-- the format of an item, as often as it counts
unfoldable pub item_of : List ℕ → Option (List Format)
item_of text = do
  count ← count_of (digits_and_rest text).0
  format ← format_of (digits_and_rest text).1
  Some (replicate count format)

unfoldable pub items_of : List (List ℕ) → Option (List Format)
items_of [] = Some []
items_of (text ∷ texts) = do
  first ← item_of text
  rest ← items_of texts
  Some (first ++ rest)

-- a text without `)` and the field terminator at its end
unfoldable pub before_end : List ℕ → Option (List ℕ)
before_end [] = None
before_end (x ∷ []) = None
before_end (x ∷ y ∷ []) = when (x == 41 && y == field_terminator) []
before_end (x ∷ y ∷ z ∷ rest) = option_map (λ text. x ∷ text) (before_end (y ∷ z ∷ rest))

-- the items of the format controls with the field terminator behind them, without the parentheses
unfoldable pub items_text : List ℕ → Option (List ℕ)
items_text [] = None
items_text (first ∷ rest) = if first == 40 then before_end rest else None

-- the formats of these format controls
unfoldable pub formats_of : List ℕ → Option (List Format)
formats_of controls = do
  items ← items_text controls
  items_of (slice_split (λ byte. byte == 44) items)

-- ---- labels

-- four bytes each, with `!` between them
unfoldable pub plain_labels : List ℕ → Option (List (List ℕ))
plain_labels [] = None
plain_labels (a ∷ []) = None
plain_labels (a ∷ b ∷ []) = None
plain_labels (a ∷ b ∷ c ∷ []) = None
plain_labels (a ∷ b ∷ c ∷ d ∷ []) = Some ((a ∷ b ∷ c ∷ d ∷ []) ∷ [])
plain_labels (a ∷ b ∷ c ∷ d ∷ e ∷ rest) =
    if e == 33 then option_map (λ labels. (a ∷ b ∷ c ∷ d ∷ []) ∷ labels) (plain_labels rest) else None

-- labels of which one has `*` before it, and its place, where the first of them has this place
unfoldable pub grouped_labels : ℕ → List ℕ → Option (List (List ℕ) × ℕ)
grouped_labels place [] = None
grouped_labels place (a ∷ []) = None
grouped_labels place (a ∷ b ∷ []) = None
grouped_labels place (a ∷ b ∷ c ∷ []) = None
grouped_labels place (a ∷ b ∷ c ∷ d ∷ []) = None
grouped_labels place (a ∷ b ∷ c ∷ d ∷ e ∷ rest) =
    option_or (if a == 42 then option_map (λ labels. (labels, place)) (plain_labels (b ∷ c ∷ d ∷ e ∷ rest)) else None)
    (if e == 33 then option_map (λ found. ((a ∷ b ∷ c ∷ d ∷ []) ∷ found.0, found.1)) (grouped_labels (suc place) rest)
    else None)

-- the labels of an array descriptor, and the place where the group begins
unfoldable pub labels_of : List ℕ → Option (List (List ℕ) × Option ℕ)
labels_of text =
    option_or (option_map (λ labels. (labels, None)) (plain_labels text))
    (option_map (λ found. (found.0, Some found.1)) (grouped_labels 1 text))

-- ---- the field

-- as many formats as labels, of which there are at most 64
unfoldable pub layout_with : List (List ℕ) × Option ℕ → List Format → Option Layout
layout_with labels formats =
    when (nat_le (length labels.0) 64 && (length formats == length labels.0))
    (record { labels = labels.0; formats = formats; repeats_from = labels.1 })

-- the array descriptor, and the format controls with the field terminator: they stand behind nine field controls
-- and the name, with a unit terminator behind the name and one between them
unfoldable pub parts_of : List ℕ → Option (List ℕ × List ℕ)
parts_of field = do
  named ← when (nat_le 9 (length field)) (drop 9 field)
  name ← cut_at unit_terminator named
  cut_at unit_terminator name.1

unfoldable pub descriptor_of : List ℕ → Option Layout
descriptor_of field = do
  parts ← parts_of field
  labels ← labels_of parts.0
  formats ← formats_of parts.1
  layout_with labels formats

-- ---- steps of the code

-- a label with `!` behind it, and what follows
unfoldable pub closed_label : List ℕ → Option (List ℕ × List ℕ)
closed_label [] = None
closed_label (a ∷ []) = None
closed_label (a ∷ b ∷ []) = None
closed_label (a ∷ b ∷ c ∷ []) = None
closed_label (a ∷ b ∷ c ∷ d ∷ []) = None
closed_label (a ∷ b ∷ c ∷ d ∷ e ∷ rest) = if e == 33 then Some (a ∷ b ∷ c ∷ d ∷ [], rest) else None

-- a list of at most so many
unfoldable pub at_most : ℕ → Option (List Format) → Option (List Format)
at_most most read = do
  formats ← read
  when (nat_le (length formats) most) formats

-- what is read, behind what stands there already
unfoldable pub behind : List Format → Option (List Format) → Option (List Format)
behind formats read = option_map (λ more. formats ++ more) read

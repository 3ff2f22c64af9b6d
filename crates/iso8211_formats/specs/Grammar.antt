-- How a data descriptive field is spelled (ISO/IEC 8211): field controls, a name, the array descriptor and the
-- format controls, in this order.
use Rattle.std.specs.Prelude.{◌≡◌, ℕ, suc, ◌+◌, ◌≤◌, ◌⊎◌, Bool, false, ◌==◌, if◌then◌else◌, List, [], ◌∷◌, ◌++◌}
use Rattle.std.specs.Prelude.{length, map, flat_map, replicate, codes, Option, Some, None}
use Rattle.std.specs.List.{AllByRecursion, join_with_byte}
use Rattle.std.specs.Str.Parse.{IsNumeral, digits_value}
use Rattle.iso8211_formats.specs.declared.format.Format.{Format}
use Rattle.iso8211_formats.specs.declared.format.Format.TheVariants.{TextOpen, Text, Unsigned, Signed, Bits}
use Rattle.iso8211_formats.specs.Layout.{Layout, IsLayout, IsFormat}
use Rattle.iso8211_formats.specs.Terminators.{field_terminator, unit_terminator}

-- without a unit terminator
abbrev pub HasNoTerminator : List ℕ → Type 0
HasNoTerminator text = AllByRecursion (λ byte. (byte == unit_terminator) ≡ false) text

-- a label is any four bytes but the unit terminator
abbrev pub IsLabel : List ℕ → Type 0
IsLabel label = (length label ≡ 4) × HasNoTerminator label

-- whether the repeated group begins at this place
abbrev pub begins_at : Option ℕ → ℕ → Bool
begins_at None place = false
begins_at (Some first) place = first == place

-- the labels from this place on, with `*` before the one at which the group begins
abbrev pub marked_labels : Option ℕ → ℕ → List (List ℕ) → List (List ℕ)
marked_labels group place [] = []
marked_labels group place (label ∷ labels) =
    (if begins_at group place then 42 ∷ label else label) ∷ marked_labels group (suc place) labels

-- the labels, joined by `!`
abbrev pub array_descriptor : Option ℕ → List (List ℕ) → List ℕ
array_descriptor group labels = join_with_byte 33 (marked_labels group 1 labels)

-- the letter of a format for text: `A`, `I` or `R`
abbrev pub IsTextLetter : ℕ → Type 0
IsTextLetter letter = (letter ≡ 65) ⊎ ((letter ≡ 73) ⊎ (letter ≡ 82))

-- a letter, and a decimal number in parentheses, which may have leading zeros
pub record HasWidth (text : List ℕ) (letter width : ℕ) : Type 0 where
  pub digits : List ℕ
  pub numeral : IsNumeral 10 digits
  pub value : digits_value 10 digits ≡ width
  pub whole : text ≡ letter ∷ 40 ∷ (digits ++ 41 ∷ [])

-- what stands for a format
abbrev pub SpellsFormat : Format → List ℕ → Type 0
SpellsFormat TextOpen text = (text ≡ codes "A") ⊎ ((text ≡ codes "A()") ⊎ ((text ≡ codes "I") ⊎ (text ≡ codes "R")))
SpellsFormat (Text width) text = (letter : ℕ) × IsTextLetter letter × HasWidth text letter width
SpellsFormat (Unsigned size) text = text ≡ codes "b1" ++ (48 + size) ∷ []
SpellsFormat (Signed size) text = text ≡ codes "b2" ++ (48 + size) ∷ []
SpellsFormat (Bits width) text = HasWidth text 66 width

-- an item of the format controls: how often it counts, and a format
pub record Item : Type 0 where
  pub count_text : List ℕ
  pub count : ℕ
  pub format_text : List ℕ
  pub format : Format

-- no count, which counts once, or a decimal number of at least 1, which may have leading zeros
abbrev pub SpellsCount : ℕ → List ℕ → Type 0
SpellsCount count text =
    ((text ≡ []) × (count ≡ 1)) ⊎ (IsNumeral 10 text × (digits_value 10 text ≡ count) × (1 ≤ count))

pub record IsItem (item : Item) : Type 0 where
  pub counted : SpellsCount item.count item.count_text
  pub spelled : SpellsFormat item.format item.format_text
  pub is_format : IsFormat item.format

abbrev pub item_text : Item → List ℕ
item_text item = item.count_text ++ item.format_text

-- the items in parentheses, joined by commas
abbrev pub format_controls : List Item → List ℕ
format_controls items = 40 ∷ (join_with_byte 44 (map item_text items) ++ 41 ∷ [])

-- each format as often as it counts
abbrev pub item_formats : List Item → List Format
item_formats items = flat_map (λ item. replicate item.count item.format) items

-- the field is a spelling of the layout
pub record Spells (layout : Layout) (field : List ℕ) : Type 0 where
  pub controls : List ℕ
  pub name : List ℕ
  pub items : List Item
  pub is_layout : IsLayout layout
  pub nine_controls : length controls ≡ 9
  pub name_ends : HasNoTerminator name
  pub labels : AllByRecursion IsLabel layout.labels
  pub has_items : 1 ≤ length items
  pub each_item : AllByRecursion IsItem items
  pub formats : layout.formats ≡ item_formats items
  pub whole :
      field ≡ controls ++ name ++ unit_terminator ∷ array_descriptor layout.repeats_from layout.labels
      ++ unit_terminator ∷ format_controls items ++ field_terminator ∷ []

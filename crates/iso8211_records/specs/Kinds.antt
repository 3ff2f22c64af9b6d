-- The kinds of a field's values.
use Rattle.std.specs.Prelude.{◌≡◌, ℕ, true, List, [], ◌∷◌, Option, Some, None, MatchOption, if◌then◌else◌}
use Rattle.std.specs.List.{AllByRecursion}
use Rattle.std.specs.Str.{bytes_eq}
use Rattle.iso8211_formats.specs.Layout.{Layout}
use Rattle.iso8211_formats.specs.declared.format.Format.{Format}
use Rattle.iso8211_formats.specs.declared.format.Format.TheVariants.{TextOpen, Text as TextOf, Unsigned, Signed}
use Rattle.iso8211_formats.specs.declared.format.Format.TheVariants.{Bits as BitsOf}
use Rattle.iso8211_records.specs.declared.value.Value.{Value}
use Rattle.iso8211_records.specs.declared.value.Value.TheVariants.{Number, Text, Bits}
use Rattle.iso8211_records.specs.declared.record.RawField.{RawField}
use Rattle.iso8211_records.specs.Tags.{is_listed}
use Rattle.iso8211_records.specs.Spelling.{formats_in, with_groups}

-- the layout under a tag: the first
abbrev pub layout_at : List (List ℕ × Layout) → List ℕ → Option Layout
layout_at [] tag = None
layout_at (pair ∷ pairs) tag = if bytes_eq pair.0 tag then Some pair.1 else layout_at pairs tag

-- the tags that have a layout
abbrev pub tags_of : List (List ℕ × Layout) → List (List ℕ)
tags_of [] = []
tags_of (pair ∷ pairs) = pair.0 ∷ tags_of pairs

-- each tag that has a layout is one of the list
abbrev pub AreListed : List (List ℕ) → List (List ℕ × Layout) → Type 0
AreListed tags pairs = AllByRecursion (λ (pair : List ℕ × Layout). is_listed tags pair.0 ≡ true) pairs

-- the value is of the format's kind
abbrev pub IsKind : Format → Value → Type 0
IsKind TextOpen (Text text) = Unit {0}
IsKind (TextOf width) (Text text) = Unit {0}
IsKind (Unsigned size) (Number number) = Unit {0}
IsKind (Signed size) (Number number) = Unit {0}
IsKind (BitsOf count) (Bits bits) = Unit {0}
IsKind _ _ = ⊥

-- as many values as formats, each of its kind
abbrev pub AreKinds : List Format → List Value → Type 0
AreKinds [] [] = Unit {0}
AreKinds (format ∷ formats) (value ∷ values) = IsKind format value × AreKinds formats values
AreKinds _ _ = ⊥

-- the values are those of a layout's subfields: with whole groups, and of the kinds of its formats
abbrev pub FitsLayout : Layout → List Value → Type 0
FitsLayout layout values = (count : ℕ) × AreKinds (with_groups count (formats_in layout)) values

-- the field's values fit the layout under its tag, and there are none where there is no such layout
abbrev pub FitsTag : List (List ℕ × Layout) → RawField → Type 0
FitsTag descriptors field =
    MatchOption (layout_at descriptors field.tag) (field.values ≡ []) (λ layout. FitsLayout layout field.values)

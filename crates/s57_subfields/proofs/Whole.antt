-- Fields that fit a layout have whole groups.
use Rattle.std.proofs.Common.{◌≡◌, ◌∙◌, ℕ, zero, suc, ◌-◌, ◌≤◌, List, [], ◌∷◌, ◌++◌, length}
use Rattle.std.proofs.Common.{Option, Some, None, refl, ap, arith}
use Rattle.std.specs.Prelude.{flat_map, IfSome}
use Rattle.std.specs.List.{AllByRecursion}
use Rattle.std.specs.Option.{option_map_or}
use Rattle.std.proofs.lemmas.List.{length-take, length-drop}
use Rattle.iso8211_formats.specs.Layout.{Layout, IsLayout}
use Rattle.iso8211_formats.specs.declared.format.Format.{Format}
use Rattle.iso8211_records.specs.declared.value.Value.{Value}
use Rattle.iso8211_records.specs.Kinds.{AreKinds, FitsLayout}
use Rattle.iso8211_records.specs.Spelling.{formats_from, formats_in, groups}
use Rattle.s57_subfields.specs.Groups.{group_size, GroupedField, values_in, IsGrouped, AreGrouped}

-- the values by the formats in front, and the rest
cut :
    (front rest : List Format) (values : List Value) → AreKinds (front ++ rest) values →
    (first more : List Value) × (values ≡ first ++ more) × (length first ≡ length front) × AreKinds rest more
cut [] rest values kinds = ([], values, refl, refl, kinds)
cut (format ∷ front) rest [] kinds = absurd kinds
cut (format ∷ front) rest (value ∷ values) kinds =
    let more = cut front rest values kinds.1 in
    (value ∷ more.0, more.1, ap (λ (l : List Value). value ∷ l) more.2, omega (arith, more.3), more.4)

none_left : (values : List Value) → AreKinds [] values → values ≡ []
none_left [] kinds = refl
none_left (value ∷ values) kinds = absurd kinds

-- so many groups
cut_groups :
    (count : ℕ) (group : List Format) (values : List Value) → AreKinds (groups count group) values →
    (cuts : List (List Value)) × (values ≡ flat_map (λ cut. cut) cuts)
    × AllByRecursion (λ cut. length cut ≡ length group) cuts
cut_groups zero group values kinds = ([], none_left values kinds, tt)
cut_groups (suc count) group values kinds =
    let first = cut group (groups count group) values kinds in
    let more = cut_groups count group first.1 first.4 in
    (first.0 ∷ more.0, first.2 ∙ ap (λ (l : List Value). first.0 ++ l) more.1, (first.3, more.2))

-- the lengths that a layout gives
once_length :
    (from : Option ℕ) (formats : List Format) (labels : List (List ℕ)) → length formats ≡ length labels →
    IfSome from (λ place. (1 ≤ place) × (place ≤ length labels)) →
    length (formats_from from formats).once ≡ option_map_or (λ place. place - 1) from (length labels)
once_length None formats labels same begins = same
once_length (Some place) formats labels same begins = omega (arith, length-take (place - 1) formats)

group_length :
    (from : Option ℕ) (formats : List Format) (labels : List (List ℕ)) → length formats ≡ length labels →
    length (formats_from from formats).group ≡ length labels - option_map_or (λ place. place - 1) from (length labels)
group_length None formats labels same = omega arith
group_length (Some place) formats labels same = omega (arith, length-drop (place - 1) formats)

-- a field
pub field_is_whole :
    (layout : Layout) (values : List Value) → IsLayout layout → FitsLayout layout values →
    (field : GroupedField) × (values ≡ values_in field) × IsGrouped layout field
field_is_whole layout values is fits =
    let formats = formats_in layout in
    let front = cut formats.once (groups fits.0 formats.group) values fits.1 in
    let more = cut_groups fits.0 formats.group front.1 front.4 in
    let once = once_length layout.repeats_from layout.formats layout.labels is.as_many is.begins in
    let group = group_length layout.repeats_from layout.formats layout.labels is.as_many in (
      record { once = front.0; groups = more.0 },
      front.2 ∙ ap (λ (l : List Value). front.0 ++ l) more.1,
      record { once = front.3 ∙ once; groups = all_as (length formats.group) (group_size layout) more.0 group more.2 },
    )
  where
    all_as :
        (n m : ℕ) (cuts : List (List Value)) → n ≡ m → AllByRecursion (λ cut. length cut ≡ n) cuts →
        AllByRecursion (λ cut. length cut ≡ m) cuts
    all_as n m [] same all = tt
    all_as n m (cut ∷ cuts) same all = (all.0 ∙ same, all_as n m cuts same all.1)

-- all fields
pub fields_are_whole :
    (layout : Layout) (fields : List (List Value)) → IsLayout layout → AllByRecursion (FitsLayout layout) fields →
    (parts : List GroupedField) × AreGrouped layout parts fields
fields_are_whole layout [] is fits = ([], record { whole = tt; values = refl })
fields_are_whole layout (values ∷ fields) is fits =
    let first = field_is_whole layout values is fits.0 in
    let rest = fields_are_whole layout fields is fits.1 in (
      first.0 ∷ rest.0,
      record {
        whole = (first.2, rest.1.whole);
        values = ap (λ (l : List Value). l ∷ fields) first.1
            ∙ ap (λ (l : List (List Value)). values_in first.0 ∷ l) rest.1.values;
      },
    )

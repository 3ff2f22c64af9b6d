-- Where a label stands in the layout of a field.
use Rattle.std.specs.Prelude.{ℕ, ◌-◌, nat_lt, if◌then◌else◌, List, length, position, Option, Some, None}
use Rattle.std.specs.Option.{option_map_or}
use Rattle.std.specs.Str.{bytes_eq}
use Rattle.iso8211_formats.specs.Layout.{Layout}
use Rattle.s57_subfields.specs.declared.subfield.Place.{Place}
use Rattle.s57_subfields.specs.declared.subfield.Place.TheVariants.{Missing, Once, Repeated}
use Rattle.s57_subfields.specs.declared.subfield.Subfield.{Subfield}

-- the place at which the repeated group begins: behind the last label where nothing repeats
abbrev pub group_start : Layout → ℕ
group_start layout = option_map_or (λ place. place - 1) layout.repeats_from (length layout.labels)

-- what a label's place among the labels of the layout is: in the repeated group it counts from the group's start
abbrev pub place_at : Layout → Option ℕ → Place
place_at layout None = Missing
place_at layout (Some at) =
    if nat_lt at (group_start layout) then Once at else Repeated (at - group_start layout)

-- of a label that stands twice the first counts
abbrev pub place_of : Option Layout → List ℕ → Place
place_of None label = Missing
place_of (Some layout) label = place_at layout (position (λ other. bytes_eq other label) layout.labels)

-- the subfield of a label, where there is a layout
abbrev pub subfield_of : Option Layout → List ℕ → Subfield
subfield_of layout label = record { label = label; place = place_of layout label }

-- Names in order, each once.
use Rattle.std.specs.Prelude.{◌≡◌, Bool, ◌&&◌, if◌then◌else◌, T, List, [], map, Option, Some, None}
use Rattle.std.specs.List.{list_any}
use Rattle.std.specs.Ordering.{eq_by_cmp}
use Rattle.std.specs.FinMap as finite
use Rattle.chart_model.specs.declared.name.Name.{Name}
use Rattle.chart_model.specs.Names.{name_cmp}
use Rattle.chart_model.specs.Cell.{CellValue}
use Rattle.chart_model.specs.declared.record.Pointer.{Pointer}
use Rattle.chart_model.specs.declared.cell.Feature.{Feature}
use Rattle.topology_cache.specs.declared.usage.Use.{Use}
use Rattle.topology_cache.specs.Users.{Names, UsersValue, HasNoEmpty, set_at, same_name, points_to_any}

-- each of the names, with nothing
abbrev pub marked_names : List Name → List (Name × Unit {0})
marked_names names = map (λ name. (name, tt)) names

-- each name is before the next
abbrev pub AreRising : List Name → Type 0
AreRising names = T (finite.is_sorted name_cmp (marked_names names))

abbrev pub set_of : List Name → Names
set_of names = finite.from_sorted (marked_names names)

-- the feature with that name is a user of the edge
abbrev pub is_user : UsersValue → Name → Name → Bool
is_user users edge name = finite.contains_key (set_at users edge) name

-- rows in the order of their records, none of which is without a user
pub record AreUserRows (rows : List (Name × Names)) : Type 0 where
  pub sorted : T (finite.is_sorted name_cmp rows)
  pub filled : HasNoEmpty (finite.from_sorted rows)

-- one of the uses is that of the edge by the feature with that name
abbrev pub is_use : List Use → Name → Name → Bool
is_use uses edge name = list_any (λ one. same_name one.target edge && same_name one.user name) uses

-- ---- a cell, feature by feature

abbrev pub pointers_in : Option Feature → List Pointer
pointers_in None = []
pointers_in (Some feature) = feature.pointers

-- the pointers of the feature with a name, and none where there is no such feature
abbrev pub pointers_at : CellValue → Name → List Pointer
pointers_at cell name = pointers_in (finite.get cell.features name)

-- ---- between two charts

abbrev pub is_among : List Name → Name → Bool
is_among names name = list_any (eq_by_cmp name_cmp name) names

-- features whose names are done are users by what they point to in the new chart, and others by the old one
abbrev pub AreBetween : CellValue → CellValue → List Name → UsersValue → Type 0
AreBetween old new done users =
    (edge name : Name) → is_user users edge name
    ≡ (if is_among done name then points_to_any edge (pointers_at new name)
    else points_to_any edge (pointers_at old name))

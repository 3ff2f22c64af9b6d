-- The features that point to a record.
use Rattle.std.specs.Prelude.{◌≡◌, ◌≢◌, Bool, ◌&&◌, ◌==◌, List, map, filter, IfSome, Contains}
use Rattle.std.specs.Coded.{Coded}
use Rattle.std.specs.List.{list_any}
use Rattle.std.specs.Option.{unwrap_or}
use Rattle.std.specs.FinMap as finite
use Rattle.std.specs.FinSet as finite_set
use Rattle.chart_model.specs.declared.name.Name.{Name}
use Rattle.chart_model.specs.declared.record.Pointer.{Pointer}
use Rattle.chart_model.specs.declared.cell.Feature.{Feature}
use Rattle.chart_model.specs.Cell.{CellValue}
use Rattle.chart_model.specs.Names.{name_cmp, name_code}

abbrev pub same_name : Name → Name → Bool
same_name a b = (a.rcnm == b.rcnm) && (a.rcid == b.rcid)

-- one of the pointers is to the record of that name
abbrev pub points_to_any : Name → List Pointer → Bool
points_to_any name pointers = list_any (λ pointer. same_name pointer.target name) pointers

-- the names of those features that point to the edge: each feature is looked at
abbrev pub users_among : Name → List (Name × Feature) → List Name
users_among edge features = map (λ entry. entry.0) (filter (λ entry. points_to_any edge entry.1.pointers) features)

-- the features of the cell that point to the edge, in the order of their names
abbrev pub users_in : CellValue → Name → List Name
users_in cell edge = users_among edge (finite.entries cell.features)

-- ---- users, record by record

-- names in order, each once
abbrev pub Names : Type 0
Names = finite_set.FinSet name_cmp

abbrev pub names_code : Coded Names
names_code = finite_set.code name_code

-- the names of the users of each record that has some
abbrev pub UsersValue : Type 0
UsersValue = finite.FinMap name_cmp Names

abbrev pub users_code : Coded UsersValue
users_code = finite.code name_code names_code

abbrev pub set_at : UsersValue → Name → Names
set_at users edge = unwrap_or (finite.get users edge) finite.empty

-- the users of an edge in order, and none where it has none
abbrev pub users_at : UsersValue → Name → List Name
users_at users edge = finite.keys (set_at users edge)

-- those of each edge are the features of the cell that point to it
abbrev pub AreUsersOf : CellValue → UsersValue → Type 0
AreUsersOf cell users = (edge : Name) → users_at users edge ≡ users_in cell edge

-- no record stands there without a user
abbrev pub HasNoEmpty : UsersValue → Type 0
HasNoEmpty users = (edge : Name) → IfSome (finite.get users edge) (λ names. finite.len names ≢ 0)

-- ---- from one chart to the next

-- the names whose feature records differ are among these
abbrev pub HasChanged : CellValue → CellValue → List Name → Type 0
HasChanged old new names =
    (name : Name) → finite.get old.features name ≢ finite.get new.features name → Contains names name

-- of these the names of features, each as often as it stands there
abbrev pub feature_names : List Name → List Name
feature_names names = filter (λ name. name.rcnm == 100) names

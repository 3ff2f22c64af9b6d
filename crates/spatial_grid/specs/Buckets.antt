-- Boxes in buckets: 64 rows of 64, and one beside them.
use Rattle.std.specs.Prelude.{◌≡◌, ◌⊎◌, ℕ, ◌+◌, ◌*◌, ◌/◌, ◌≤◌, min, max, ℤ, ◌-ℤ◌, unsigned_abs, T, List, Contains}
use Rattle.std.specs.Prelude.{slice_get, Some}
use Rattle.std.specs.Int.{int_min, int_max}
use Rattle.std.specs.List.Sorted.{IsNonDecreasingBy}
use Rattle.std.specs.FinMap as finite
use Rattle.chart_model.specs.declared.name.Name.{Name}
use Rattle.chart_model.specs.Names.{name_cmp}
use Rattle.plane_bounds.specs.declared.bounds.Bounds.{Bounds}
use Rattle.spatial_grid.specs.declared.axis.Axis.{Axis}
use Rattle.spatial_grid.specs.declared.entry.Entry.{Entry}

-- the part of an axis in which a number lies
unfoldable pub index_on : Axis → ℤ → ℕ
index_on axis n = min (unsigned_abs (int_max (int_min n axis.high) axis.low -ℤ axis.low) / max axis.width 1) 63

abbrev pub bucket_of : Entry → ℕ
bucket_of entry = entry.bucket

-- what is in the one list is in the other too
abbrev pub Keeps : {X : Type 0} → List X → List X → Type 0
Keeps {X} xs ys = (x : X) → Contains xs x → Contains ys x

-- the place has an entry in the bucket of a row and a column
abbrev pub StandsAt : ℕ → ℕ → ℕ → List Entry → Type 0
StandsAt place row column entries = Contains entries (record { bucket = row * 64 + column; place = place })

-- in the buckets of a row from one column up to another
abbrev pub StandsAcross : ℕ → ℕ → ℕ → ℕ → List Entry → Type 0
StandsAcross place row first last entries =
    (column : ℕ) → first ≤ column → column ≤ last → StandsAt place row column entries

-- in those of the rows from one up to another
abbrev pub StandsIn : ℕ → ℕ → ℕ → ℕ → ℕ → List Entry → Type 0
StandsIn place low high first last entries =
    (row : ℕ) → low ≤ row → row ≤ high → StandsAcross place row first last entries

-- beside the buckets
abbrev pub StandsBeside : ℕ → List Entry → Type 0
StandsBeside place entries = Contains entries (record { bucket = 4096; place = place })

abbrev pub IsEntered : ℕ → ℕ → ℕ → ℕ → ℕ → List Entry → Type 0
IsEntered place low high first last entries =
    StandsBeside place entries ⊎ StandsIn place low high first last entries

-- the box at a place stands in each bucket that it covers, or beside them
abbrev pub IsEnteredAt : List (Name × Bounds) → Axis → Axis → ℕ → List Entry → Type 0
IsEnteredAt boxes rows columns place entries =
    (boxed : Name × Bounds) → slice_get boxes place ≡ Some boxed →
    IsEntered place (index_on rows boxed.1.y0) (index_on rows boxed.1.y1)
    (index_on columns boxed.1.x0) (index_on columns boxed.1.x1) entries

-- each box does
abbrev pub AreEntered : List (Name × Bounds) → Axis → Axis → List Entry → Type 0
AreEntered boxes rows columns entries = (place : ℕ) → IsEnteredAt boxes rows columns place entries

-- boxes in the order of their names, and all of them in buckets
pub record IsGrid (boxes : List (Name × Bounds)) (entries : List Entry) (rows columns : Axis) : Type 0 where
  pub sorted : T (finite.is_sorted name_cmp boxes)
  pub ordered : IsNonDecreasingBy bucket_of entries
  pub entered : AreEntered boxes rows columns entries

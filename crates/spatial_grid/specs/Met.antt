-- Names that are told of boxes that meet an area.
use Rattle.std.specs.Prelude.{◌≡◌, ◌⊎◌, ℕ, ◌+◌, ◌*◌, ◌≤◌, List, Contains, slice_get, Some}
use Rattle.chart_model.specs.declared.name.Name.{Name}
use Rattle.plane_bounds.specs.declared.bounds.Bounds.{Bounds}
use Rattle.plane_bounds.specs.Bounds.{Meets}
use Rattle.spatial_grid.specs.declared.entry.Entry.{Entry}
use Rattle.spatial_grid.specs.Buckets.{Keeps}

-- the name is that of a box that meets the area
pub record IsMet (boxes : List (Name × Bounds)) (area : Bounds) (name : Name) : Type 0 where
  pub box : Bounds
  pub there : Contains boxes (name, box)
  pub meets : Meets box area

-- more names, and no others than those of such boxes
pub record Adds (boxes : List (Name × Bounds)) (area : Bounds) (old new : List Name) : Type 0 where
  pub kept : Keeps old new
  pub sound : (name : Name) → Contains new name → Contains old name ⊎ IsMet boxes area name

-- the name of the box at a place is among the names, where the box meets the area
abbrev pub Tells : List (Name × Bounds) → Bounds → ℕ → List Name → Type 0
Tells boxes area place names =
    (boxed : Name × Bounds) → slice_get boxes place ≡ Some boxed → Meets boxed.1 area → Contains names boxed.0

pub record IsTold (boxes : List (Name × Bounds)) (area : Bounds) (place : ℕ) (old new : List Name) : Type 0 where
  pub adds : Adds boxes area old new
  pub told : Tells boxes area place new

-- the boxes of the entries
pub record AreTold (boxes : List (Name × Bounds)) (area : Bounds) (entries : List Entry) (old new : List Name)
    : Type 0 where
  pub adds : Adds boxes area old new
  pub told : (entry : Entry) → Contains entries entry → Tells boxes area entry.place new

-- the boxes in the buckets from one up to another
pub record AreToldBetween (boxes : List (Name × Bounds)) (area : Bounds) (entries : List Entry) (first last : ℕ)
    (old new : List Name) : Type 0 where
  pub adds : Adds boxes area old new
  pub told : (entry : Entry) → Contains entries entry → first ≤ entry.bucket → entry.bucket ≤ last →
      Tells boxes area entry.place new

-- the boxes in some columns of some rows
pub record AreToldIn (boxes : List (Name × Bounds)) (area : Bounds) (entries : List Entry) (low high first last : ℕ)
    (old new : List Name) : Type 0 where
  pub adds : Adds boxes area old new
  pub told : (row column place : ℕ) → low ≤ row → row ≤ high → first ≤ column → column ≤ last →
      Contains entries (record { bucket = row * 64 + column; place = place }) → Tells boxes area place new

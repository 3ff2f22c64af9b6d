-- At how many boxes one looks for an area: at each entry in a bucket that it covers, and at each beside the buckets.
use Rattle.std.specs.Prelude.{ℕ, ◌/◌, ◌%◌, Bool, ◌&&◌, ◌||◌, ◌==◌, nat_le, List, length}
use Rattle.std.specs.List.{filter}
use Rattle.plane_bounds.specs.declared.bounds.Bounds.{Bounds}
use Rattle.spatial_grid.specs.declared.axis.Axis.{Axis}
use Rattle.spatial_grid.specs.declared.entry.Entry.{Entry}
use Rattle.spatial_grid.specs.Buckets.{index_on}

abbrev pub is_between : ℕ → ℕ → ℕ → Bool
is_between first last n = nat_le first n && nat_le n last

-- the entry stands in one of the buckets from one up to another
abbrev pub stands_between : ℕ → ℕ → Entry → Bool
stands_between first last entry = is_between first last entry.bucket

-- it stands in some columns of some rows: a row has 64 buckets
abbrev pub stands_within : ℕ → ℕ → ℕ → ℕ → Entry → Bool
stands_within low high first last entry =
    is_between low high (entry.bucket / 64) && is_between first last (entry.bucket % 64)

-- it stands beside the buckets, or in one that the area covers
abbrev pub is_looked_at : Axis → Axis → Bounds → Entry → Bool
is_looked_at rows columns area entry =
    entry.bucket == 4096 ||
    stands_within (index_on rows area.y0) (index_on rows area.y1) (index_on columns area.x0) (index_on columns area.x1)
    entry

-- how many of the entries do
abbrev pub looks_among : List Entry → Axis → Axis → Bounds → ℕ
looks_among entries rows columns area = length (filter (is_looked_at rows columns area) entries)

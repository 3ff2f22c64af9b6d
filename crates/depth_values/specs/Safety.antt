-- Which areas are safe.
use Rattle.std.specs.Prelude.{ℤ, int_le, Bool, not, ◌&&◌, ◌==◌}
use Rattle.chart_model.specs.Codes.{AREA}
use Rattle.chart_model.specs.declared.cell.Feature.{Feature}
use Rattle.depth_values.specs.Area.{d1_of}
use Rattle.depth_values.specs.Under.{is_depth_area}

-- a depth area or a dredged area whose least depth is the safety contour or more
abbrev pub is_safe_area : ℤ → Feature → Bool
is_safe_area contour feature = is_depth_area feature && int_le contour (d1_of feature)

-- an area of group 1, of those that cover the chart without a gap, that isn't safe
abbrev pub is_unsafe_area : ℤ → Feature → Bool
is_unsafe_area contour feature =
    (feature.prim == AREA) && ((feature.grup == 1) && not (is_safe_area contour feature))

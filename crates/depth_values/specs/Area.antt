-- The range of depths of an area, in centimetres.
use Rattle.std.specs.Prelude.{ℤ, pos, negsuc, ◌+ℤ◌, unwrap_or}
use Rattle.chart_model.specs.declared.cell.Feature.{Feature}
use Rattle.depth_values.specs.declared.area.Depths.{Depths}
use Rattle.depth_values.specs.Codes.{DRVAL1, DRVAL2}
use Rattle.depth_values.specs.Attributes.{depth_at}

-- DRVAL1, or -100 where it is unknown
abbrev pub d1_of : Feature → ℤ
d1_of feature = unwrap_or (depth_at feature DRVAL1) (negsuc 99)

-- DRVAL2, or one more than d1 where it is unknown
abbrev pub d2_of : Feature → ℤ
d2_of feature = unwrap_or (depth_at feature DRVAL2) (d1_of feature +ℤ pos 1)

abbrev pub depths_of : Feature → Depths
depths_of feature = record { d1 = d1_of feature; d2 = d2_of feature }

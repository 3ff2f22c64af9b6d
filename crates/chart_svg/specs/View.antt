-- The map of a chart onto a picture.
use Rattle.std.specs.Prelude.{ℤ, pos, ◌*◌, ◌-ℤ◌, ◌*ℤ◌, int_div}
use Rattle.plane_geometry.specs.declared.point.Pt.{Pt}
use Rattle.chart_svg.specs.declared.view.Spot.{Spot}
use Rattle.chart_svg.specs.declared.view.View.{View}
use Rattle.chart_svg.specs.Extent.{cosine_between}

-- how far to the east of the west border: the whole view is as wide as the picture
unfoldable pub across : View → ℤ → ℤ
across view x = int_div ((x -ℤ view.west) *ℤ pos view.width) (view.east -ℤ view.west)

-- how far below the north border: as far as the same number of degrees is wide, divided by the cosine
unfoldable pub down : View → ℤ → ℤ
down view y =
    int_div ((view.north -ℤ y) *ℤ pos (view.width * 10000))
    ((view.east -ℤ view.west) *ℤ pos (cosine_between view.south view.north))

abbrev pub spot_at : View → ℤ → ℤ → Spot
spot_at view x y = record { x = across view x; y = down view y }

-- where a point of the chart stands in the picture
abbrev pub spot_of : View → Pt → Spot
spot_of view p = spot_at view p.x p.y

-- how high the picture is
abbrev pub height_of : View → ℤ
height_of view = down view view.south

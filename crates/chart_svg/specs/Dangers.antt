-- The elements of dangers along a route.
use Rattle.std.specs.Prelude.{ℕ, ◌-◌, ◌==◌, Bool, if◌then◌else◌, List, [], map, find, codes, slice_get}
use Rattle.std.specs.Prelude.{Option, Some, None}
use Rattle.std.specs.Str.{bytes_eq}
use Rattle.plane_geometry.specs.declared.point.Pt.{Pt}
use Rattle.area_rings.specs.declared.shape.Shape.{Shape}
use Rattle.area_rings.specs.declared.shape.Shape.TheVariants as shape
use Rattle.area_rings.specs.Edge.{point_of}
use Rattle.route_check.specs.declared.danger.Danger.{Danger}
use Rattle.chart_svg.specs.declared.chart.Chart.{Chart}
use Rattle.chart_svg.specs.declared.element.Element.{Element}
use Rattle.chart_svg.specs.declared.element.Origin.TheVariants.{FromDanger}
use Rattle.chart_svg.specs.declared.figure.Dash.TheVariants.{Solid}
use Rattle.chart_svg.specs.declared.figure.Figure.{Figure}
use Rattle.chart_svg.specs.declared.figure.Figure.TheVariants.{Area, Lines, Symbols}
use Rattle.chart_svg.specs.declared.figure.Fill.TheVariants.{Sheer}
use Rattle.chart_svg.specs.declared.figure.Pen.{Pen}
use Rattle.colour_table.specs.declared.swatch.Colour.{Colour}
use Rattle.chart_svg.specs.declared.look.Look.{Look}
use Rattle.chart_svg.specs.declared.view.View.{View}
use Rattle.chart_svg.specs.Look.{colour_of}
use Rattle.chart_svg.specs.Places.{alone, shape_at}
use Rattle.chart_svg.specs.Figure.{spots_of, spot_lines_of}

-- ---- where it is

abbrev pub has_key : List ℕ → Chart → Bool
has_key key chart = bytes_eq chart.key key

-- the shape of the feature of a danger, on the first chart of its key
abbrev pub shape_on : Option Chart → ℕ → Option Shape
shape_on None rcid = None
shape_on (Some chart) rcid = shape_at chart.cell.now rcid

abbrev pub danger_shape : List Chart → Danger → Option Shape
danger_shape charts danger = shape_on (find (has_key danger.key) charts) danger.rcid

-- a sounding at its place among the points of its feature, counted from 1; and for 0 all of them
abbrev pub points_among : List Pt → ℕ → List Pt
points_among points place = if place == 0 then points else alone (slice_get points (place - 1))

-- ---- what marks it

abbrev pub danger_colour : Look → Colour
danger_colour look = colour_of look (codes "DNGHL")

-- a circle
abbrev pub ring_path : List ℕ
ring_path = codes "m-9,0a9,9,0,1,0,18,0a9,9,0,1,0,-18,0"

abbrev pub circles : View → Look → List Pt → Figure
circles view look points = Symbols (spots_of view points) ring_path (danger_colour look)

abbrev pub danger_pen : Look → Pen
danger_pen look = record { colour = danger_colour look; width = 4; dash = Solid }

-- a circle round each point, a line along its whole length, and an area filled so that the chart shows through
abbrev pub danger_figure : View → Look → ℕ → Option Shape → Figure
danger_figure view look place None = circles view look []
danger_figure view look place (Some (shape.Points coords)) =
    circles view look (points_among (map point_of coords) place)
danger_figure view look place (Some (shape.Lines lines)) = Lines (spot_lines_of view lines) (danger_pen look)
danger_figure view look place (Some (shape.Rings rings)) =
    Area (spot_lines_of view rings) (Sheer (danger_colour look))
danger_figure view look place (Some shape.Bare) = circles view look []

abbrev pub danger_element : View → Look → List Chart → Danger → Element
danger_element view look charts danger = record {
  origin = FromDanger danger;
  figure = danger_figure view look danger.place (danger_shape charts danger);
}

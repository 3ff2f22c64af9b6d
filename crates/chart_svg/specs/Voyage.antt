-- The elements of a route and its dangers, and of a whole picture.
use Rattle.std.specs.Prelude.{ℕ, ℤ, pos, neg_ℤ, ◌+ℤ◌, List, [], ◌∷◌, ◌++◌, map, codes, Option, Some, None}
use Rattle.std.specs.List.{flat_map, enumerate_from}
use Rattle.route_geometry.specs.declared.leg.Leg.{Leg}
use Rattle.route_check.specs.declared.route.Route.{Route}
use Rattle.route_check.specs.Route.{legs_of}
use Rattle.chart_svg.specs.declared.chart.Chart.{Chart}
use Rattle.chart_svg.specs.declared.element.Element.{Element}
use Rattle.chart_svg.specs.declared.element.Origin.TheVariants.{FromLeg}
use Rattle.chart_svg.specs.declared.figure.Dash.TheVariants.{Solid}
use Rattle.chart_svg.specs.declared.figure.Figure.TheVariants.{Lines}
use Rattle.chart_svg.specs.declared.figure.Pen.{Pen}
use Rattle.chart_svg.specs.declared.look.Look.{Look}
use Rattle.chart_svg.specs.declared.view.Spot.{Spot}
use Rattle.chart_svg.specs.declared.view.View.{View}
use Rattle.chart_svg.specs.declared.voyage.Voyage.{Voyage}
use Rattle.chart_svg.specs.View.{spot_at}
use Rattle.chart_svg.specs.Look.{colour_of}
use Rattle.chart_svg.specs.Element.{drawing_elements}
use Rattle.chart_svg.specs.Dangers.{danger_element}

-- ---- legs

-- a leg that is shifted by a longitude and a latitude
abbrev pub leg_line : View → Leg → ℤ → ℤ → List Spot
leg_line view leg x y =
    spot_at view (leg.a.x +ℤ x) (leg.a.y +ℤ y) ∷ spot_at view (leg.b.x +ℤ x) (leg.b.y +ℤ y) ∷ []

-- the leg itself, and the way of each corner of its box
abbrev pub leg_lines : View → Leg → List (List Spot)
leg_lines view leg =
    let w = pos leg.w in
    let h = pos leg.h in
    leg_line view leg (pos 0) (pos 0)
    ∷ leg_line view leg (neg_ℤ w) (neg_ℤ h)
    ∷ leg_line view leg w (neg_ℤ h)
    ∷ leg_line view leg w h
    ∷ leg_line view leg (neg_ℤ w) h
    ∷ []

-- in the colour of planned routes
abbrev pub route_pen : Look → Pen
route_pen look = record { colour = colour_of look (codes "PLRTE"); width = 2; dash = Solid }

abbrev pub leg_element : View → Look → ℕ × Leg → Element
leg_element view look counted =
    record { origin = FromLeg counted.0; figure = Lines (leg_lines view counted.1) (route_pen look) }

abbrev pub route_elements : View → Look → Route → List Element
route_elements view look route = map (leg_element view look) (enumerate_from 1 (legs_of route))

-- ---- whole pictures

-- each leg in order, and then each danger
abbrev pub voyage_elements : View → Look → List Chart → Option Voyage → List Element
voyage_elements view look charts None = []
voyage_elements view look charts (Some voyage) =
    route_elements view look voyage.route.now ++ map (danger_element view look charts) voyage.dangers.now

-- the drawings of the charts in order, and the voyage over them
abbrev pub elements_of : View → Look → List Chart → Option Voyage → List Element
elements_of view look charts voyage =
    flat_map (drawing_elements view look) charts ++ voyage_elements view look charts voyage

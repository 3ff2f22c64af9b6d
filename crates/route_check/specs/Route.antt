-- Routes and their legs.
use Rattle.std.specs.Prelude.{List, map, zip, drop}
use Rattle.plane_geometry.specs.declared.point.Pt.{Pt}
use Rattle.route_geometry.specs.declared.leg.Leg.{Leg}
use Rattle.route_check.specs.declared.route.Route.{Route}

-- a leg of the route, from a point to the next, widened by the route's box
abbrev pub leg_between : Route → Pt × Pt → Leg
leg_between route way = record { a = way.0; b = way.1; w = route.w; h = route.h }

-- the legs: each point but the last with the next
abbrev pub legs_of : Route → List Leg
legs_of route = map (leg_between route) (zip route.points (drop 1 route.points))

-- The legs of a route by their numbers.
use Rattle.std.proofs.Common.{◌≡◌, ℕ, ◌+◌, ◌-◌, ◌<◌, ◌≤◌, List, length, drop, get_or, Some, ap, ◌∙◌, arith, length-drop}
use Rattle.std.specs.List.{slice_get, zip}
use Rattle.std.specs.Option.{option_map}
use Rattle.std.proofs.lemmas.List.{length-map, get_or-drop}
use Rattle.std.proofs.lemmas.Option.{slice_get-map, slice_get-get_or}
use Rattle.std.proofs.lemmas.Slice.Zip.{length-zip, get_or-zip}
use Rattle.plane_geometry.specs.declared.point.Pt.{Pt}
use Rattle.route_check.specs.Route.{leg_between, legs_of}
use Rattle.route_check.specs.declared.route.Route.{Route}

-- there is one way fewer than points
length-ways : (points : List Pt) → length (zip points (drop 1 points)) ≡ length points - 1
length-ways points = omega (arith, length-zip points (drop 1 points), length-drop 1 points)

pub length-legs : (route : Route) → length (legs_of route) ≡ length route.points - 1
length-legs route = length-map (zip route.points (drop 1 route.points)) (leg_between route) ∙ length-ways route.points

-- the way that begins at a place
way_at : (points : List Pt) (k : ℕ) (d : Pt) → k < length points - 1 → slice_get (zip points (drop 1 points)) k ≡ Some (get_or points k d, get_or points (1 + k) d)
way_at points k d h =
    slice_get-get_or (zip points (drop 1 points)) k (d, d) (omega (arith, length-ways points))
    ∙ ap (λ (way : Pt × Pt). Some way)
    (get_or-zip points (drop 1 points) k (d, d) (omega arith) (omega (arith, length-drop 1 points))
    ∙ ap (λ (to : Pt). (get_or points k d, to)) (get_or-drop 1 points k d))

behind : (number : ℕ) → 1 ≤ number → 1 + (number - 1) ≡ number
behind number h = omega arith

pub leg_at : (route : Route) (number : ℕ) (d : Pt) → 1 ≤ number → number ≤ length route.points - 1
    → slice_get (legs_of route) (number - 1) ≡ Some (leg_between route (get_or route.points (number - 1) d, get_or route.points number d))
leg_at route number d low high =
    slice_get-map (leg_between route) (zip route.points (drop 1 route.points)) (number - 1)
    ∙ ap (option_map (leg_between route)) (way_at route.points (number - 1) d (omega arith))
    ∙ ap (λ (k : ℕ). Some (leg_between route (get_or route.points (number - 1) d, get_or route.points k d))) (behind number low)

-- The line `cover`: a line for each leg of a route that no area of coverage covers.
use Rattle.std.specs.Prelude.{ℕ, List, [], ◌∷◌, length, codes, Result, Ok}
use Rattle.std.specs.List.{flat_map}
use Rattle.chart_model.specs.Answers.{◌>>=◌}
use Rattle.chart_model.specs.State.{StateValue}
use Rattle.coverage_points.specs.Uncovered.{uncovered_of}
use Rattle.route_check.specs.Reading.{route_in}
use Rattle.route_check.specs.Route.{legs_of}
use Rattle.route_check.specs.declared.fault.RouteFault.{RouteFault}
use Rattle.route_check.specs.declared.route.Route.{Route}
use Rattle.script_reader.specs.Reply.{line_of, number}
use Rattle.script_reader.specs.declared.reply.Reply.{Reply}
use Rattle.script_reader.specs.declared.reply.Reply.TheVariants.{Cover}

-- the line of a leg: its number
abbrev pub uncovered_line : ℕ → List ℕ
uncovered_line leg = line_of (codes "uncovered" ∷ number leg ∷ [])

-- the lines of legs, one after the other
abbrev pub uncovered_lines : List ℕ → List ℕ
uncovered_lines legs = flat_map uncovered_line legs

-- the legs of a route that aren't covered, as a reply: the number of all legs, the number of these, and a line for each
abbrev pub uncovered_reply : Route → List ℕ → Reply
uncovered_reply route legs = Cover (length (legs_of route)) (length legs) (uncovered_lines legs)

-- the legs that aren't covered of the route that the bytes are, or why they are none
abbrev pub cover_reply : StateValue → List ℕ → Result Reply RouteFault
cover_reply state bytes = route_in bytes >>= λ route. Ok (uncovered_reply route (uncovered_of state (legs_of route)))

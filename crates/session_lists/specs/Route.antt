-- The line `route`: a line for each danger along a route.
use Rattle.std.specs.Prelude.{ℕ, List, [], ◌∷◌, length, codes, Result, Ok}
use Rattle.std.specs.List.{flat_map}
use Rattle.chart_model.specs.Answers.{◌>>=◌}
use Rattle.chart_model.specs.State.{StateValue}
use Rattle.chart_model.specs.declared.settings.Settings.{Settings}
use Rattle.route_check.specs.Reading.{route_in}
use Rattle.route_check.specs.Report.{report_of}
use Rattle.route_check.specs.Route as routes
use Rattle.route_check.specs.declared.danger.Danger.{Danger}
use Rattle.route_check.specs.declared.fault.RouteFault.{RouteFault}
use Rattle.route_check.specs.declared.route.Route as declared
use Rattle.script_reader.specs.Reply.{line_of, number}
use Rattle.script_reader.specs.declared.reply.Reply.{Reply}
use Rattle.script_reader.specs.declared.reply.Reply.TheVariants.{Route}

-- the line of a danger: its leg, the key of its cell, the number of its feature and its place
abbrev pub danger_line : Danger → List ℕ
danger_line danger =
    line_of (codes "danger" ∷ number danger.leg ∷ danger.key ∷ number danger.rcid ∷ number danger.place ∷ [])

-- the lines of dangers, one after the other
abbrev pub danger_lines : List Danger → List ℕ
danger_lines dangers = flat_map danger_line dangers

-- a report as a reply: the number of legs, the number of dangers, and a line for each
abbrev pub report_reply : declared.Route → List Danger → Reply
report_reply route dangers = Route (length (routes.legs_of route)) (length dangers) (danger_lines dangers)

-- the dangers along the route that the bytes are, or why they are none
abbrev pub route_reply : Settings → StateValue → List ℕ → Result Reply RouteFault
route_reply settings state bytes = route_in bytes >>= λ route. Ok (report_reply route (report_of state settings route))

-- What the lines `route` and `cover` answer.
use Rattle.std.specs.Prelude.{ℕ, List, Option, Some, None, unwrap_or, Result}
use Rattle.chart_model.specs.Answers.{◌>>=◌, or_fault_as}
use Rattle.chart_model.specs.State.{StateValue}
use Rattle.chart_model.specs.declared.settings.Settings.{Settings}
use Rattle.chart_ports.specs.declared.shelf.Fetched.{Fetched}
use Rattle.route_check.specs.declared.fault.RouteFault.{RouteFault}
use Rattle.route_check.specs.declared.fault.RouteFault.TheVariants as of_route
use Rattle.script_reader.specs.declared.reply.Reply.{Reply}
use Rattle.session_lists.specs.Cover.{cover_reply}
use Rattle.session_lists.specs.Route.{route_reply}
use Rattle.session_core.specs.declared.fault.EventFault.{EventFault}
use Rattle.session_core.specs.declared.fault.EventFault.TheVariants.{Refused, NoMemory}
use Rattle.session_core.specs.declared.refusal.LineRefusal.{LineRefusal}
use Rattle.session_core.specs.declared.refusal.LineRefusal.TheVariants.{RouteLine, RouteFew, RouteMany}
use Rattle.session_core.specs.Fetch.{file_in}

-- the most bytes of a route's file
abbrev pub ROUTE_LIMIT : ℕ
ROUTE_LIMIT = 65536

-- ---- faults

-- why a route is refused; want of memory is no fault of it
abbrev pub refusal_of_route : RouteFault → Option LineRefusal
refusal_of_route (of_route.BadLine line) = Some (RouteLine line)
refusal_of_route (of_route.Few points) = Some (RouteFew points)
refusal_of_route (of_route.Many points) = Some (RouteMany points)
refusal_of_route of_route.NoMemory = None

-- the same as a fault of an event
abbrev pub fault_of_route : RouteFault → EventFault
fault_of_route (of_route.BadLine line) = Refused (RouteLine line)
fault_of_route (of_route.Few points) = Refused (RouteFew points)
fault_of_route (of_route.Many points) = Refused (RouteMany points)
fault_of_route of_route.NoMemory = NoMemory

-- The value, or what its fault is refused as. No definition answers want of memory, so what stands in its place is
-- never seen.
abbrev pub or_refused : {A : Type 0} → Result A RouteFault → Result A LineRefusal
or_refused result = or_fault_as (λ fault. unwrap_or (refusal_of_route fault) (RouteFew 0)) result

-- ---- replies

-- what is replied by the bytes of a route's file
abbrev pub replied_by : (List ℕ → Result Reply RouteFault) → List ℕ → Result Reply LineRefusal
replied_by reply bytes = or_refused (reply bytes)

-- the dangers along the route of the file of a name
unfoldable pub route_of : Settings → StateValue → List ℕ → Option Fetched → Result Reply LineRefusal
route_of settings state name fetched = file_in ROUTE_LIMIT name fetched >>= replied_by (route_reply settings state)

-- the legs of it that no area of coverage covers
unfoldable pub cover_of : StateValue → List ℕ → Option Fetched → Result Reply LineRefusal
cover_of state name fetched = file_in ROUTE_LIMIT name fetched >>= replied_by (cover_reply state)

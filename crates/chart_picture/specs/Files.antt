-- Cell files and the route that lie on a shelf.
use Rattle.std.specs.Prelude.{◌≡◌, ◌⊎◌, ℕ, ◌+◌, List, [], ◌∷◌, Option, Some, None, unwrap_or, Result, Ok, Err}
use Rattle.chart_model.specs.Answers.{◌>>=◌, or_fault_as}
use Rattle.chart_model.specs.State.{StateValue}
use Rattle.chart_model.specs.declared.settings.Settings.{Settings}
use Rattle.chart_ports.specs.Fetched.{fetched_of}
use Rattle.chart_ports.specs.declared.shelf.Fetched.{Fetched}
use Rattle.chart_ports.specs.declared.shelf.Fetched.TheVariants.{Bytes, Absent, Long}
use Rattle.chart_store.specs.Loaded.{FILE_LIMIT, loaded}
use Rattle.chart_store.specs.declared.fault.TakeFault.{TakeFault}
use Rattle.chart_store.specs.declared.fault.TakeFault.TheVariants as take
use Rattle.chart_store.specs.declared.refusal.Refusal as of_store
use Rattle.chart_store.specs.declared.refusal.Refusal.TheVariants.{FileLong}
use Rattle.route_check.specs.Reading.{route_in}
use Rattle.route_check.specs.Report.{report_of}
use Rattle.route_check.specs.declared.fault.RouteFault.{RouteFault}
use Rattle.route_check.specs.declared.route.Route.{Route}
use Rattle.session_core.specs.Fetch.{Files}
use Rattle.session_core.specs.Route.{ROUTE_LIMIT, refusal_of_route}
use Rattle.session_core.specs.declared.refusal.LineRefusal.{LineRefusal}
use Rattle.session_core.specs.declared.refusal.LineRefusal.TheVariants.{RouteFew, Store}
use Rattle.chart_picture.specs.declared.run.fault.FileFault.{FileFault}
use Rattle.chart_picture.specs.declared.run.fault.FileFault.TheVariants as faults
use Rattle.chart_picture.specs.declared.run.end.Place.{Place}
use Rattle.chart_picture.specs.declared.run.end.Place.TheVariants as places
use Rattle.chart_picture.specs.declared.run.end.End.{End}
use Rattle.chart_picture.specs.declared.run.end.End.TheVariants.{File, NoMemory}
use Rattle.chart_picture.specs.declared.run.voyage.CheckedRoute.{CheckedRoute}

-- the bytes of the file at a place and of a name, which may have at most so many, or why it is refused
abbrev pub file_in : Place → List ℕ → ℕ → Fetched → Result (List ℕ) End
file_in place name limit (Bytes bytes) = Ok bytes
file_in place name limit Absent = Err (File place name faults.Absent)
file_in place name limit Long = Err (File place name (faults.Refused (Store (FileLong limit))))

-- the run ends so where a file has a fault, unless there is no memory to say so
abbrev pub IsRefusedAs : Place → List ℕ → FileFault → End → Type 0
IsRefusedAs place name fault end = (end ≡ File place name fault) ⊎ (end ≡ NoMemory)

-- ---- cells

-- how the run ends where the store would refuse the file at a place and of a name
abbrev pub end_of_store : Place → List ℕ → of_store.Refusal → End
end_of_store place name refusal = File place name (faults.Refused (Store refusal))

-- the run ends so at a file which isn't loaded
abbrev pub IsLoadEnd : Place → List ℕ → TakeFault → End → Type 0
IsLoadEnd place name (take.Refused refusal) end = IsRefusedAs place name (faults.Refused (Store refusal)) end
IsLoadEnd place name take.NoMemory end = end ≡ NoMemory

-- what is held once a file is loaded, or why it is refused
unfoldable pub taken_as : Place → List ℕ → StateValue → List ℕ → Result StateValue End
taken_as place name state file = or_fault_as (end_of_store place name) (loaded state file) >>= λ done. Ok done.state

-- the same of the cell file of a number and a name
abbrev pub load_of : Files → StateValue → ℕ → List ℕ → Result StateValue End
load_of files state number name =
    file_in (places.Cell number) name FILE_LIMIT (fetched_of FILE_LIMIT (files name))
    >>= taken_as (places.Cell number) name state

-- the same of several files in their order, the first of which has this number
unfoldable pub loads_from : Files → StateValue → ℕ → List (List ℕ) → Result StateValue End
loads_from files state number [] = Ok state
loads_from files state number (name ∷ more) =
    load_of files state number name >>= λ next. loads_from files next (number + 1) more

-- ---- the route

-- How the run ends at the route of a name. No definition answers want of memory, so what stands in its place is never
-- seen.
abbrev pub end_of_route : List ℕ → RouteFault → End
end_of_route name fault = File places.Route name (faults.Refused (unwrap_or (refusal_of_route fault) (RouteFew 0)))

-- The run ends so at a route which is refused so; there is no refusal where memory ran out.
abbrev pub IsRouteEnd : List ℕ → Option LineRefusal → End → Type 0
IsRouteEnd name None end = end ≡ NoMemory
IsRouteEnd name (Some refusal) end = IsRefusedAs places.Route name (faults.Refused refusal) end

-- the route that the bytes of the file of a name are
unfoldable pub route_as : List ℕ → List ℕ → Result Route End
route_as name bytes = or_fault_as (end_of_route name) (route_in bytes)

abbrev pub route_in_file : Files → List ℕ → Result Route End
route_in_file files name =
    file_in places.Route name ROUTE_LIMIT (fetched_of ROUTE_LIMIT (files name)) >>= route_as name

-- a route, and the dangers along it
abbrev pub with_dangers : Settings → StateValue → Route → CheckedRoute
with_dangers settings state route = record { route = route; dangers = report_of state settings route }

abbrev pub voyage_in : Files → Settings → StateValue → List ℕ → Result CheckedRoute End
voyage_in files settings state name =
    route_in_file files name >>= λ route. Ok (with_dangers settings state route)

-- the same where there is a name
abbrev pub checked_in : Files → Settings → StateValue → Option (List ℕ) → Result (Option CheckedRoute) End
checked_in files settings state None = Ok None
checked_in files settings state (Some name) = voyage_in files settings state name >>= λ checked. Ok (Some checked)

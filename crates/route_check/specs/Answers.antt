-- Answers of reading a route, with want of memory left free.
use Rattle.std.specs.Prelude.{Result}
use Rattle.chart_model.specs.Memory as memory
use Rattle.route_check.specs.declared.route.Route.{Route}
use Rattle.route_check.specs.declared.fault.RouteFault.{RouteFault}
use Rattle.route_check.specs.declared.fault.RouteFault.TheVariants.{NoMemory}

abbrev pub Answers : Result Route RouteFault → Result Route RouteFault → Type 0
Answers answer wanted = memory.Gives NoMemory answer wanted

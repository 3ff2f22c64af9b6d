-- the legs up to the number
use Rattle.std.proofs.Common.{◌≡◌, take}
use Rattle.route_check.specs.Route.{legs_of}
use Rattle.session_lists.proofs.cover.legs_in.Given as goal

abbrev pub invariant-loop-before : goal.invariant-loop-before
invariant-loop-before l = l.legs.items ≡ take l.before (legs_of l.route)

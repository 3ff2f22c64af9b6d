use Rattle.std.proofs.Common.{pos, arith}
use Rattle.route_check.proofs.Legs.{leg_at}
use Rattle.route_check.proofs.route.Route.leg.Goals as goal

pub returns : goal.returns
returns c =
    rw c.as_slice-points.ensures.points
    (leg_at c.args.self.now c.args.number (record { x = pos 0; y = pos 0 }) (omega arith) (omega arith))

use Rattle.std.proofs.Common.{List, length, ◌-◌, sym, ap, ◌∙◌}
use Rattle.plane_geometry.specs.declared.point.Pt.{Pt}
use Rattle.route_check.proofs.Legs.{length-legs}
use Rattle.route_check.proofs.route.Route.leg_count.Goals as goal

pub returns-clause-legs : goal.returns-clause-legs
returns-clause-legs c = ap (λ (points : List Pt). length points - 1) c.as_slice.ensures.points ∙ sym (length-legs c.args.self.now)

use Rattle.std.proofs.Common.{sym, ap, ◌∙◌, subst}
use Rattle.std.proofs.lemmas.Bool.{false≢true}
use Rattle.plane_bounds.specs.declared.bounds.Bounds.{Bounds}
use Rattle.plane_bounds.specs.Bounds.{Meets}
use Rattle.route_check.specs.Meeting.{meets_shape}
use Rattle.route_check.specs.Object.{ObjectValue}
use Rattle.route_check.specs.Reach.{reach_of}
use Rattle.route_check.specs.Target.{shape_in}
use Rattle.route_check.proofs.Far.{far_not_met}
use Rattle.route_check.proofs.object.Object.is_met.Goals as goal

pub returns-else-meets : goal.returns-else-meets
returns-else-meets c =
    let leg = c.args.leg.now in
    let object = c.self.inside in
    let far = λ (m : Meets object.bounds (reach_of leg)).
    false≢true (sym c.if-meets.false ∙ c.meets.ensures.1 (subst (λ (b : Bounds). Meets object.bounds b) (sym c.requires) m)) in
    c.if-meets.false
    ∙ sym (far_not_met leg object.bounds (shape_in object.target) c.self.invariant far)
    ∙ ap (λ (value : ObjectValue). meets_shape leg value.shape) c.self.view_is

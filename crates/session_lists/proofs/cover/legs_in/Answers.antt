use Rattle.std.proofs.Common.{[], ◌∷◌, ◌++◌, List, sym, ap, ◌∙◌}
use Rattle.route_check.specs.Route.{legs_of}
use Rattle.route_geometry.specs.declared.leg.Leg.{Leg}
use Rattle.session_lists.proofs.Legs.{one_more}
use Rattle.session_lists.proofs.cover.legs_in.Goals as goal

pub loop-before-preserved : goal.loop-before-preserved
loop-before-preserved c =
    c.in_ok-push.ensures.items
    ∙ ap (λ (legs : List Leg). legs ++ c.leg.result ∷ []) c.loop-before.invariant
    ∙ sym (one_more (legs_of c.args.route.now) c.loop-before.before c.leg.result c.leg.ensures)

use Rattle.std.proofs.Common.{◌≡◌, IfSome, arith, sym, ◌∙◌, ap, subst}
use Rattle.std.specs.FinMap as map
use Rattle.chart_model.specs.Change.{Change, IsChange}
use Rattle.update_apply.specs.Changed.{FitsFeature}
use Rattle.update_apply.proofs.NoFault.{feature-fits}
use Rattle.update_apply.proofs.apply.change_features.Goals as goal

pub edit-requires-clause-fits : goal.edit-requires-clause-fits
edit-requires-clause-fits c =
    let change : Change = c.args.change in
    let three : c.change.inside.ruin ≡ 3 = omega (arith, c.change.invariant.ruin) in
    subst (λ (named : Change). IfSome (map.get c.args.features.now named.target) (FitsFeature change)) (sym c.change.view_is)
    (feature-fits change (subst IsChange c.change.view_is c.change.invariant) (sym (ap (λ (said : Change). said.ruin) c.change.view_is) ∙ three) _ c.requires)

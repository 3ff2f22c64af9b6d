use Rattle.std.proofs.Common.{◌≡◌, ◌+◌, List, ◌++◌, sym, ap, ◌∙◌, subst}
use Rattle.std.specs.List.{flat_map, enumerate_from}
use Rattle.std.proofs.lemmas.List.{append-nil}
use Rattle.std.proofs.Math.ListN.{drop_of_length-le}
use Rattle.route_geometry.specs.declared.leg.Leg.{Leg}
use Rattle.coverage_points.specs.Coverage.{coverage_in}
use Rattle.coverage_points.specs.Uncovered.{AreUncovered, uncovered_at, uncovered_of}
use Rattle.coverage_points.proofs.Numbers.{numbers_are}
use Rattle.coverage_points.proofs.legs.uncovered_legs.Goals as goal

pub returns-clause-exact : goal.returns-clause-exact
returns-clause-exact c =
    let state = c.args.state.now in
    let legs = c.args.legs.now in
    let numbers = c.loop-before.numbers.items in
    let before = c.loop-before.before in
    let value : c.from_vec.result ≡ uncovered_of state legs =
    c.from_vec.ensures
    ∙ sym (append-nil numbers)
    ∙ ap (λ (left : List Leg). numbers ++ flat_map (uncovered_at (coverage_in state)) (enumerate_from (before + 1) left)) (sym (drop_of_length-le legs c.loop-before-test.false))
    ∙ c.loop-before.invariant in
    subst (AreUncovered state legs) (sym value) (numbers_are state legs)

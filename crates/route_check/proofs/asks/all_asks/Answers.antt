use Rattle.std.proofs.Common.{◌≡◌, ℕ, ◌+◌, ◌-◌, Some, subst, arith}
use Rattle.std.specs.List.{slice_get}
use Rattle.route_check.specs.Route.{legs_of}
use Rattle.route_check.proofs.Asking.{next_before, all_before}
use Rattle.route_check.proofs.asks.all_asks.Goals as goal

pub loop-before-preserved : goal.loop-before-preserved
loop-before-preserved c =
    let before = c.loop-before.before in
    let legs = legs_of c.args.route.now in
    let here : (before + 1) - 1 ≡ before = omega arith in
    next_before c.args.grid.now c.args.route.now before c.leg-leg.result c.loop-before.asks.items c.push_leg.new.asks.items
    (subst (λ (k : ℕ). slice_get legs k ≡ Some c.leg-leg.result) here c.leg-leg.ensures) c.loop-before.invariant c.in_ok-push_leg.ensures

pub returns : goal.returns
returns c =
    all_before c.args.grid.now c.args.route.now c.loop-before.before c.loop-before.asks.items
    (omega (arith, c.leg_count-before-end.ensures.legs, c.loop-before-test.false)) c.loop-before.invariant

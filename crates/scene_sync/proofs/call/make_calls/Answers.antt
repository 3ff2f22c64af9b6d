use Rattle.std.proofs.Common.{◌≡◌, IsSome, length, arith, ap, subst, sym}
use Rattle.scene_sync.specs.Calls.{call_in}
use Rattle.scene_sync.proofs.Counts.{counts-on}
use Rattle.scene_sync.proofs.Paints.{call-made, made-on, one-further}
use Rattle.scene_sync.proofs.call.make_calls.Goals as goal

pub returns-in_err-make_call-clause-at_most : goal.returns-in_err-make_call-clause-at_most
returns-in_err-make_call-clause-at_most g c =
    counts-on c.loop-call.call-index 1 (length c.args.next.now) _ _ _ c.loop-call.invariant.counts (omega arith)
    c.make_call.ensures.at_most

pub loop-call-preserved : goal.loop-call-preserved
loop-call-preserved g c =
    let there =
    subst (λ call. IsSome (call_in c.args.target.now call)) (sym c.call-item.is)
    (c.requires c.loop-call.call-index c.call-item.result c.loop-call-test.true) in
    let made = call-made (call_in c.args.target.now c.call-item.result) there c.in_ok-make_call.ensures.shown in
    made-on _ _ made.0 c.loop-call.call-index _ _ _ _ _ _ _ _ _ _ _ _ _ _ _
    c.loop-call.invariant
    (one-further (call_in c.args.target.now) c.args.next.now c.loop-call.call-index c.call-item.result made.0
    c.loop-call-test.true c.call-item.is made.1)
    made.2 c.make_call.ensures.tells c.in_ok-make_call.ensures.counted c.make_call.ensures.later

pub returns-clause-untouched : goal.returns-clause-untouched
returns-clause-untouched g c = λ none.
    let made : c.loop-call.call-index ≡ 0 =
    omega (arith, ap length none, c.loop-call.auto.call-index-end, c.loop-call-test.false) in
    c.loop-call.invariant.untouched made

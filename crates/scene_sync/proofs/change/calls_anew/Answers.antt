use Rattle.std.proofs.Common.{◌≡◌, ◌<◌, arith, subst, ◌∙◌}
use Rattle.std.specs.FinMap as finite
use Rattle.scene_sync.proofs.Plans.{anew-all, anew-more}
use Rattle.scene_sync.proofs.change.calls_anew.Goals as goal

pub loop-place-preserved : goal.loop-place-preserved
loop-place-preserved c =
    anew-more c.args.target.now _ _ c.loop-place.place
    (subst (λ n. c.loop-place.place < n) (c.len-place-end.ensures ∙ finite.len-entries c.args.target.now) c.loop-place-test.true)
    c.in_ok-push-2.ensures.items c.loop-place.invariant

pub returns : goal.returns
returns c =
    let all : c.loop-place.place ≡ c.len-place-end.result = omega arith in
    anew-all c.args.target.now _ c.loop-place.place
    (all ∙ c.len-place-end.ensures ∙ finite.len-entries c.args.target.now)
    c.loop-place.invariant

use Rattle.std.proofs.Common.{◌<◌, ◌≤◌, ◌∙◌, ℕ, List, length, Some, arith, refl}
use Rattle.std.proofs.lemmas.Result.{err_from_is_err_and}
use Rattle.chart_store.specs.Images.{state_after_record}
use Rattle.chart_store.proofs.Replaying.{replayed-all, replayed-bytes, replayed-foreign, replayed-state, replayed-steps}
use Rattle.chart_store.proofs.replay.replay.Goals as goal

pub loop-number-preserved : goal.loop-number-preserved
loop-number-preserved g c =
    let walk = c.loop-number.invariant in
    let bodies : List (List ℕ) = c.args.content.now.bodies in
    let number = c.loop-number.number in
    let live = c.loop-number.live in
    let gate = c.loop-number.gate in
    let body : List ℕ = c.body-body.result.now in
    let body_is = c.body-body.ensures in
    let next = c.replay_one.new.live in
    let recorded = c.in_ok-replay_one.ensures.recorded in
    let inside : number < length bodies = omega (arith, c.loop-number-test.true, c.body_count-number-end.ensures) in
    record {
      state = walk.state ∙ replayed-state live gate bodies number inside body body_is (Some next) recorded;
      steps = omega (
        arith,
        walk.steps,
        c.replay_one.ensures.at_most,
        replayed-steps live gate bodies number inside body body_is (Some next) recorded,
      );
      fits = omega (arith, walk.fits, replayed-bytes live gate bodies number inside body body_is);
    }

pub returns-in_err-replay_one-clause-foreign : goal.returns-in_err-replay_one-clause-foreign
returns-in_err-replay_one-clause-foreign g c =
    let p = err_from_is_err_and c.from_residual.result c.from_residual.ensures.1 in
    let bodies : List (List ℕ) = c.args.content.now.bodies in
    let number = c.loop-number.number in
    let inside : number < length bodies = omega (arith, c.loop-number-test.true, c.body_count-number-end.ensures) in
    rw (p.1, p.2) (replayed-foreign c.loop-number.live c.loop-number.gate c.args.bank number bodies
    c.body-body.result.now inside c.body-body.ensures _ c.loop-number.invariant.state c.in_err-replay_one.field-0.0
    c.in_err-replay_one.ensures.foreign)

pub returns-in_err-replay_one-clause-at_most : goal.returns-in_err-replay_one-clause-at_most
returns-in_err-replay_one-clause-at_most g c =
    let bodies : List (List ℕ) = c.args.content.now.bodies in
    let number = c.loop-number.number in
    let live = c.loop-number.live in
    let body : List ℕ = c.body-body.result.now in
    let inside : number < length bodies = omega (arith, c.loop-number-test.true, c.body_count-number-end.ensures) in
    omega (
      arith,
      c.loop-number.invariant.steps,
      c.replay_one.ensures.at_most,
      replayed-steps live c.loop-number.gate bodies number inside body c.body-body.ensures
          (state_after_record live body) refl,
    )

pub returns-clause-state : goal.returns-clause-state
returns-clause-state g c =
    let bodies : List (List ℕ) = c.args.content.now.bodies in
    let all : length bodies ≤ c.loop-number.number = omega
    (arith, c.loop-number-test.false, c.body_count-number-end.ensures) in
    c.loop-number.invariant.state ∙ replayed-all c.loop-number.live c.loop-number.gate bodies c.loop-number.number all

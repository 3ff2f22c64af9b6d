use Rattle.std.proofs.Common.{◌≤◌, get_or, arith, sym, ◌∙◌}
use Rattle.iso8211_leader.proofs.DigitsLemmas.{weight-le, weight_sum-step, weight_sum-all, room, bound-more}
use Rattle.iso8211_leader.proofs.digits.sum_of_each.Goals as goal

pub with-sum-requires : goal.with-sum-requires
with-sum-requires c =
    let small : c.loop-byte.sum ≤ 200000000000000000 = room _ _ _ c.loop-byte.invariant.bound c.loop-byte-test.true c.requires in
    omega arith

pub loop-byte-preserved : goal.loop-byte-preserved
loop-byte-preserved c = record {
  rest = rw c.with-sum.ensures.sum (sym (weight_sum-step c.loop-byte.sum c.loop-byte.byte-index c.args.text.now c.loop-byte-test.true) ∙ c.loop-byte.invariant.rest);
  bound = rw c.with-sum.ensures.sum (bound-more _ _ _ c.loop-byte.invariant.bound (weight-le (get_or c.args.text.now c.loop-byte.byte-index 0)));
}

pub returns : goal.returns
returns c = sym (weight_sum-all _ _ _ c.loop-byte-test.false) ∙ c.loop-byte.invariant.rest

use Rattle.std.proofs.Common.{◌<◌, arith}
use Rattle.iso8211_leader.specs.Digits.{weight_sum}
use Rattle.iso8211_leader.proofs.DigitsLemmas.{weight_sum-below, digits-below, digits-below-most}
use Rattle.iso8211_leader.proofs.digits.number_in.Goals as goal

pub returns-then-sum-from-clause-value : goal.returns-then-sum-from-clause-value
returns-then-sum-from-clause-value c =
    rw c.sum_of-sum.ensures (weight_sum-below c.args.text.now (omega arith))

pub returns-then-sum-from-clause-below : goal.returns-then-sum-from-clause-below
returns-then-sum-from-clause-below c =
    let small : weight_sum 0 c.args.text.now < 1000000000 = omega arith in
    rw c.sum_of-sum.ensures (digits-below c.args.text.now c.requires (weight_sum-below c.args.text.now small).0).1

pub returns-else-sum-from-clause-value : goal.returns-else-sum-from-clause-value
returns-else-sum-from-clause-value c digits =
    let most : weight_sum 0 c.args.text.now < 1000000000 = digits-below-most c.args.text.now c.requires digits in
    omega arith

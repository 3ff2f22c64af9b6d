use Rattle.std.proofs.Common.{refl, arith}
use Rattle.iso8211_leader.proofs.DigitsLemmas.{weight_sum-five}
use Rattle.iso8211_leader.proofs.digits.sum_of.Goals as goal

pub returns-in-len5 : goal.returns-in-len5
returns-in-len5 c =
    rw (
      weight_sum-five c.args.text.now (omega arith),
      c.with-in-len5-4.ensures.sum,
      c.with-in-len5-3.ensures.sum,
      c.with-in-len5-2.ensures.sum,
      c.with-in-len5.ensures.sum,
      c.with.ensures.sum,
    ) refl

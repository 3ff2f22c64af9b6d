use Rattle.std.proofs.Common.{arith, rules}
use Rattle.std.proofs.lemmas.List.{drop_all}
use Rattle.depth_values.proofs.digit_items.push_digits.Goals as goal

pub returns : goal.returns
returns c =
    let none = drop_all c.loop-cell.cell-index c.as_slice-cell-items.result.now (omega (arith, c.loop-cell-test.false)) in
    let all = rw none at c.loop-cell.invariant in
    search rules

use Rattle.std.proofs.Common.{arith, sym}
use Rattle.std.proofs.lemmas.Grind.{common_steps}
use Rattle.std.proofs.lemmas.Result.{err_from_is_err_and}
use Rattle.update_sequence.specs.Built.{folded}
use Rattle.update_sequence.proofs.Folding.{folded-refused}
use Rattle.update_sequence.proofs.chart.make_all.Goals as goal

pub loop-change-preserved : goal.loop-change-preserved
unfolding folded
loop-change-preserved c = let none = c.in_ok-judge_change.ensures.passes in grind (arith, common_steps)

pub returns-in_err-judge_change-clause-made : goal.returns-in_err-judge_change-clause-made
returns-in_err-judge_change-clause-made c =
    let p = err_from_is_err_and c.from_residual.result c.from_residual.ensures.1 in
    rw (p.1, p.2) (rw (sym c.loop-change.invariant.0, c.in-Some.ensures.steps.0)
    (folded-refused c.loop-change.cell c.in-Some.change _ c.in_err-judge_change.field-0.0
    c.in_err-judge_change.ensures.fault))

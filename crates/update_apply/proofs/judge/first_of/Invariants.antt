use Rattle.std.proofs.Common.{◌≡◌, drop}
use Rattle.chart_model.specs.Answers.{first_of}
use Rattle.update_apply.proofs.judge.first_of.Given as goal

abbrev pub invariant-loop-fault : goal.invariant-loop-fault
invariant-loop-fault l = first_of (drop l.fault-index l.faults) ≡ first_of l.faults

use Rattle.std.proofs.Common.{Err, ap, subst, sym, ◌∙◌, rules}
use Rattle.update_apply.specs.Fault.{Judges, fault_of}
use Rattle.update_apply.specs.declared.fault.ChangeFault.TheVariants.{NoMemory}
use Rattle.update_apply.proofs.Judged.{no-fault}
use Rattle.update_apply.proofs.apply.apply_record.Goals as goal

pub returns-in_default-clause-fault : goal.returns-in_default-clause-fault
returns-in_default-clause-fault c =
    subst (Judges (Err NoMemory)) (no-fault _ _ c.in_ok-judge_change.ensures.fault) (search rules)

pub make_change-requires : goal.make_change-requires
make_change-requires c =
    ap (fault_of c.args.cell.now) c.in-Ok.ensures ∙ c.in_ok-judge_change.ensures.passes

pub returns-clause-fault : goal.returns-clause-fault
returns-clause-fault c =
    subst (Judges c.map_err.result) (no-fault _ _ c.in_ok-judge_change.ensures.fault) (search rules)

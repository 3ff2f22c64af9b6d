use Rattle.text_lines.proofs.FirstFaults.{has_first-to, has_first-from, no_fault-to, no_fault-from}
use Rattle.text_lines.proofs.fault.first_faults_are_found.Goals as goal

pub returns-clause-fault : goal.returns-clause-fault
returns-clause-fault g c = λ fault_at all fault. (has_first-from fault_at all fault, has_first-to fault_at all fault)

pub returns-clause-none : goal.returns-clause-none
returns-clause-none g c = λ fault_at all. (no_fault-to fault_at all, no_fault-from fault_at all)

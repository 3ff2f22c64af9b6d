use Rattle.bank_journal.proofs.BankRead.{given, given_fault, reading_tells, fault_tells, either, never_both}
use Rattle.bank_journal.proofs.BankRead.{one_reading, one_fault}
use Rattle.bank_journal.proofs.laws.banks_are_read.Goals as goal

pub returns-clause-reading : goal.returns-clause-reading
returns-clause-reading c = λ bytes content. (reading_tells bytes content, given bytes content)

pub returns-clause-fault : goal.returns-clause-fault
returns-clause-fault c = λ bytes offset. (fault_tells bytes offset, given_fault bytes offset)

pub returns-clause-either : goal.returns-clause-either
returns-clause-either c = either

pub returns-clause-never_both : goal.returns-clause-never_both
returns-clause-never_both c = never_both

pub returns-clause-one_reading : goal.returns-clause-one_reading
returns-clause-one_reading c = one_reading

pub returns-clause-one_fault : goal.returns-clause-one_fault
returns-clause-one_fault c = one_fault

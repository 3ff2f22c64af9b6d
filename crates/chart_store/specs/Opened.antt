-- Why the files of a store are not opened.
use Rattle.bank_journal.specs.declared.fault.BankFault.{BankFault}
use Rattle.bank_journal.specs.declared.fault.BankFault.TheVariants as banks
use Rattle.chart_store.specs.declared.open_fault.OpenFault.{OpenFault}
use Rattle.chart_store.specs.declared.open_fault.OpenFault.TheVariants.{DeskFault, Foreign, NoMemory}
use Rattle.chart_store.specs.Images.{Place}

abbrev pub fault_of_bank : BankFault → OpenFault
fault_of_bank banks.DeskFault = DeskFault
fault_of_bank (banks.Foreign bank at) = Foreign bank at
fault_of_bank banks.NoMemory = NoMemory

-- files that are no store's, with their first fault
abbrev pub ForeignHas : (Place → Type 0) → OpenFault → Type 0
ForeignHas P (Foreign bank at) = P (record { bank = bank; at = at })
ForeignHas P DeskFault = Unit {0}
ForeignHas P NoMemory = Unit {0}

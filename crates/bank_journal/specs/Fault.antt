-- What a fault of a bank tells.
use Rattle.std.specs.Prelude.{◌≤◌, ℕ, Result, IsErrOf}
use Rattle.chart_ports.specs.Count.{Rose}
use Rattle.bank_journal.specs.declared.fault.AppendFault.{AppendFault}
use Rattle.bank_journal.specs.declared.fault.AppendFault.TheVariants.{DeskFault as AppendFailed, Full}
use Rattle.bank_journal.specs.declared.fault.BankFault.{BankFault}
use Rattle.bank_journal.specs.declared.fault.BankFault.TheVariants.{DeskFault as OpenFailed, Foreign, NoMemory}

-- bytes that have no reading, with the bank and the place of their first fault
abbrev pub ForeignHas : (ℕ → ℕ → Type 0) → BankFault → Type 0
ForeignHas P (Foreign bank offset) = P bank offset
ForeignHas P OpenFailed = Unit {0}
ForeignHas P NoMemory = Unit {0}

-- a full bank, with its length and what the record needs
abbrev pub FullHas : (ℕ → ℕ → Type 0) → AppendFault → Type 0
FullHas P (Full length need) = P length need
FullHas P AppendFailed = Unit {0}

-- the desk's count never falls, and a fault of the desk is told only where it rose
pub record HasDeskCause {T E : Type 0} (fault : E) (before now : ℕ) (result : Result T E) : Type 0 where
  pub later : before ≤ now
  pub failed : IsErrOf result fault → Rose before now

-- What a walk over the bytes of a bank tells.
use Rattle.std.specs.Prelude.{ℕ}
use Rattle.bank_journal.specs.declared.reading.WalkFault.{WalkFault}
use Rattle.bank_journal.specs.declared.reading.WalkFault.TheVariants.{Foreign, NoMemory}

-- the place of the first fault, unless memory ran out
abbrev pub FaultHas : (ℕ → Type 0) → WalkFault → Type 0
FaultHas P (Foreign place) = P place
FaultHas P NoMemory = Unit {0}

-- What contracts see of an open bank.
use Rattle.std.specs.Prelude.{ℕ}
use Rattle.bank_journal.specs.declared.bank.Bank.{Bank}

-- the number of its file
abbrev pub file_of : Bank → ℕ
file_of bank = bank.file

-- the place of its closed gate
abbrev pub place_of : Bank → ℕ
place_of bank = bank.gate

-- The update instruction of a record.
use Rattle.std.specs.Prelude.{Result, Ok, ℕ, Bool, if◌then◌else◌}
use Rattle.s57_subfields.specs.declared.fault.FieldFault.{FieldFault}

-- the update instruction, which is looked at in updates alone
abbrev pub ruin_in : Bool → Result ℕ FieldFault → Result ℕ FieldFault
ruin_in update answer = if update then answer else Ok 0

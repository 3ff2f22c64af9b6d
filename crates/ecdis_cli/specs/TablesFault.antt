-- How the fault of a catalogue or a table is told.
use Rattle.std.specs.Prelude.{ℕ, List, codes}
use Rattle.std.specs.Fmt.{decimal}
use Rattle.ecdis_cli.specs.declared.run.tables_fault.TablesFault.{TablesFault}
use Rattle.ecdis_cli.specs.declared.run.tables_fault.TablesFault.TheVariants.{Absent, Long, BadLine, Twice}
use Rattle.ecdis_cli.specs.declared.run.tables_fault.TablesFault.TheVariants.{UnknownName, UnknownProcedure}

-- the line that has it, or a word where there is nothing to read
abbrev pub place_of : TablesFault → List ℕ
place_of Absent = codes "absent"
place_of Long = codes "long"
place_of (BadLine line) = decimal line
place_of (Twice line) = decimal line
place_of (UnknownName line) = decimal line
place_of (UnknownProcedure line) = decimal line

-- The numbers and lines of the statuses.
use Rattle.std.specs.Prelude.{ℕ, Bool, true, false, List, [], ◌∷◌, ◌++◌, codes}
use Rattle.std.specs.Fmt.{decimal}
use Rattle.ecdis_cli.specs.declared.run.status.Status.{Status}
use Rattle.ecdis_cli.specs.declared.run.status.Status.TheVariants.{Done, Words, Tables, Foreign, ScriptFault}
use Rattle.ecdis_cli.specs.declared.run.status.Status.TheVariants.{ScriptLong, DeskFault, NoMemory, ShelfFault}
use Rattle.ecdis_cli.specs.TablesFault.{place_of}

-- the run ended at the words, at the catalogue or at the table, before its store was asked for
abbrev pub is_early : Status → Bool
is_early Words = true
is_early (Tables which fault) = true
is_early ShelfFault = true
is_early other = false

-- the number with which the program ends
abbrev pub exit_code : Status → ℕ
exit_code Done = 0
exit_code Words = 1
exit_code (Tables which fault) = 2
exit_code (Foreign bank at) = 3
exit_code ScriptFault = 4
exit_code ScriptLong = 5
exit_code DeskFault = 6
exit_code NoMemory = 7
exit_code ShelfFault = 8

-- what is written to standard error, and nothing where the run was done
abbrev pub line_of : Status → List ℕ
line_of Done = []
line_of Words = codes "ecdis: words"
line_of (Tables which fault) = codes "ecdis: tables " ++ decimal which ++ 32 ∷ [] ++ place_of fault
line_of (Foreign bank at) = codes "ecdis: foreign " ++ decimal bank ++ 32 ∷ [] ++ decimal at
line_of ScriptFault = codes "ecdis: script fault"
line_of ScriptLong = codes "ecdis: script long"
line_of DeskFault = codes "ecdis: desk fault"
line_of NoMemory = codes "ecdis: no memory"
line_of ShelfFault = codes "ecdis: shelf fault"

-- How the faults of files are told.
use Rattle.std.specs.Prelude.{ℕ, pos, List, [], ◌∷◌, ◌++◌, codes}
use Rattle.std.specs.List.{join_with_byte}
use Rattle.text_scan.specs.Written.{decimal_of}
use Rattle.session_core.specs.Refusal as of_line
use Rattle.chart_picture.specs.declared.run.fault.FileFault.{FileFault}
use Rattle.chart_picture.specs.declared.run.fault.FileFault.TheVariants as file
use Rattle.chart_picture.specs.declared.run.fault.TableFault.{TableFault}
use Rattle.chart_picture.specs.declared.run.fault.TableFault.TheVariants as table
use Rattle.chart_picture.specs.declared.run.end.Place.{Place}
use Rattle.chart_picture.specs.declared.run.end.Place.TheVariants.{Cell, Route}

-- the line that has it, or a word where there is nothing to read
abbrev pub place_of : TableFault → List ℕ
place_of table.Absent = codes "absent"
place_of table.Long = codes "long"
place_of (table.Line line) = decimal_of (pos line)

-- the number of a refusal, and what it names, of the file of a name
abbrev pub code_of : FileFault → ℕ
code_of file.Absent = 71
code_of (file.Refused refusal) = of_line.code_of refusal

abbrev pub values_of : List ℕ → FileFault → List ℕ
values_of name file.Absent = name
values_of name (file.Refused refusal) = join_with_byte 32 (of_line.values_of refusal)

-- what is named stands behind a space, where anything is
abbrev pub behind_space : List ℕ → List ℕ
behind_space [] = []
behind_space (first ∷ rest) = 32 ∷ first ∷ rest

abbrev pub refusal_text : List ℕ → FileFault → List ℕ
refusal_text name fault = decimal_of (pos (code_of fault)) ++ behind_space (values_of name fault)

abbrev pub place_text : Place → List ℕ
place_text (Cell number) = codes " in file " ++ decimal_of (pos number) ++ 32 ∷ []
place_text Route = codes " in route "

-- How runs end.
use Rattle.std.specs.Prelude.{ℕ, pos, Bool, true, false, List, [], ◌∷◌, ◌++◌, codes, Option, Some, None, Result}
use Rattle.text_scan.specs.Written.{decimal_of}
use Rattle.chart_model.specs.Answers as answers
use Rattle.chart_ports.specs.declared.shelf.ShelfError.{ShelfError}
use Rattle.chart_ports.specs.declared.shelf.ShelfError.TheVariants as of_shelf
use Rattle.chart_picture.specs.Fault.{place_of, place_text, refusal_text}
use Rattle.chart_picture.specs.declared.run.fault.FileFault.{FileFault}
use Rattle.chart_picture.specs.declared.run.fault.TableFault.{TableFault}
use Rattle.chart_picture.specs.declared.run.end.Place.{Place}
use Rattle.chart_picture.specs.declared.run.end.Place.TheVariants.{Cell, Route}
use Rattle.chart_picture.specs.declared.run.end.End.{End}
use Rattle.chart_picture.specs.declared.run.end.End.TheVariants.{Done, Words, Tables, File, OutputFault}
use Rattle.chart_picture.specs.declared.run.end.End.TheVariants.{NoMemory, ShelfFault}

-- the number with which the program ends
abbrev pub exit_code : End → ℕ
exit_code Done = 0
exit_code Words = 1
exit_code (Tables which fault) = 2
exit_code (File (Cell number) name fault) = 3
exit_code (File Route name fault) = 4
exit_code OutputFault = 6
exit_code NoMemory = 7
exit_code ShelfFault = 8

-- ---- what is written to standard error

abbrev pub table_line : ℕ → TableFault → List ℕ
table_line which fault =
    codes "chart_picture: tables " ++ decimal_of (pos which) ++ 32 ∷ [] ++ place_of fault

-- the refusal as it is replied to a line of a script, which file it is, and its name
abbrev pub refused_line : Place → List ℕ → FileFault → List ℕ
refused_line place name fault =
    codes "chart_picture: no " ++ refusal_text name fault ++ place_text place ++ name

-- nothing where the run was done
abbrev pub line_of : End → List ℕ
line_of Done = []
line_of Words = codes "chart_picture: words"
line_of (Tables which fault) = table_line which fault
line_of (File place name fault) = refused_line place name fault
line_of OutputFault = codes "chart_picture: output fault"
line_of NoMemory = codes "chart_picture: no memory"
line_of ShelfFault = codes "chart_picture: shelf fault"

-- ---- ends that are answered in place of a value

-- how the run ends that a shelf doesn't answer
abbrev pub end_of_shelf : ShelfError → End
end_of_shelf of_shelf.Failed = ShelfFault
end_of_shelf of_shelf.NoMemory = NoMemory

-- the end that tells of files; that the shelf failed, and want of memory, tell nothing of them
abbrev pub told : End → Option End
told Done = Some Done
told Words = Some Words
told (Tables which fault) = Some (Tables which fault)
told (File place name fault) = Some (File place name fault)
told OutputFault = Some OutputFault
told NoMemory = None
told ShelfFault = None

-- the answer is what was to be answered, unless the shelf failed or memory ran out
abbrev pub Gives : {A : Type 0} → Result A End → Result A End → Type 0
Gives answer wanted = answers.Gives told answer wanted

-- a file is refused
abbrev pub is_refusal : End → Bool
is_refusal Done = false
is_refusal Words = false
is_refusal (Tables which fault) = true
is_refusal (File place name fault) = true
is_refusal OutputFault = false
is_refusal NoMemory = false
is_refusal ShelfFault = false

-- the same, or there is no memory: nothing else ends the reading of a file
abbrev pub ends_reading : End → Bool
ends_reading Done = false
ends_reading Words = false
ends_reading (Tables which fault) = true
ends_reading (File place name fault) = true
ends_reading OutputFault = false
ends_reading NoMemory = true
ends_reading ShelfFault = false

-- the same, or the shelf fails: nothing else ends the fetching of files
abbrev pub ends_fetching : End → Bool
ends_fetching Done = false
ends_fetching Words = false
ends_fetching (Tables which fault) = true
ends_fetching (File place name fault) = true
ends_fetching OutputFault = false
ends_fetching NoMemory = true
ends_fetching ShelfFault = true

-- how runs end whose words name no files
abbrev pub is_early : End → Bool
is_early Done = true
is_early Words = true
is_early (Tables which fault) = false
is_early (File place name fault) = false
is_early OutputFault = true
is_early NoMemory = true
is_early ShelfFault = false

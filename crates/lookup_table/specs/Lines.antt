-- What the bytes of a table are, or their first fault.
use Rattle.std.specs.Prelude.{ℕ, ◌+◌, nat_lt, Bool, not, ◌&&◌, if◌then◌else◌, List, [], ◌∷◌, length}
use Rattle.std.specs.Prelude.{Option, Some, None, is_none, Result, Ok, Err}
use Rattle.std.specs.Option.{option_to_list}
use Rattle.std.specs.List.{flat_map, list_any}
use Rattle.std.specs.Str.Lines.{lines}
use Rattle.chart_model.specs.Answers.{when, first_of, unless}
use Rattle.text_lines.specs.Lines.{is_silent}
use Rattle.text_lines.specs.Reading.{first_fault}
use Rattle.object_catalogue.specs.Codes.{CatalogueValue, code_in}
use Rattle.lookup_table.specs.declared.fault.TableFault.{TableFault}
use Rattle.lookup_table.specs.declared.fault.TableFault.TheVariants.{BadLine, UnknownName, UnknownProcedure}
use Rattle.lookup_table.specs.declared.condition.Condition.{Condition}
use Rattle.lookup_table.specs.declared.instruction.Instruction.{Instruction}
use Rattle.lookup_table.specs.declared.line.TableLine.{TableLine}
use Rattle.lookup_table.specs.declared.written.WrittenLine.{WrittenLine}
use Rattle.lookup_table.specs.Named.{line_as, coded_line, named_condition, instruction_in, has_unknown_name}
use Rattle.lookup_table.specs.Named.{has_unknown_procedure}
use Rattle.lookup_table.specs.Reading.{each, written_of}

-- the line of a table that a line of the file is, where it says something and is one
abbrev pub written_on : List ℕ → List WrittenLine
written_on line = if is_silent line then [] else option_to_list (written_of line)

-- what a line says
abbrev pub lines_on : CatalogueValue → List ℕ → List TableLine
lines_on catalogue line = flat_map (λ written. option_to_list (coded_line catalogue written)) (written_on line)

-- the line says something and is no line of a table
abbrev pub is_bad : List ℕ → Bool
is_bad line = not (is_silent line) && is_none (written_of line)

-- What is wrong with the line of a number: it stands behind the 10,000th; or it is bad; or one of its names isn't in
-- the catalogue; or one of its procedures isn't there.
abbrev pub line_fault : CatalogueValue → ℕ → List ℕ → Option TableFault
line_fault catalogue number line =
    first_of (
    when (nat_lt 10000 number) (BadLine number)
    ∷ when (is_bad line) (BadLine number)
    ∷ when (list_any (has_unknown_name catalogue) (written_on line)) (UnknownName number)
    ∷ when (list_any has_unknown_procedure (written_on line)) (UnknownProcedure number)
    ∷ []
    )

-- what is wrong with a line behind others
abbrev pub fault_at : CatalogueValue → List (List ℕ) → List ℕ → Option TableFault
fault_at catalogue before line = line_fault catalogue (length before + 1) line

-- the table that the bytes are, or the first fault among their lines
abbrev pub table_in : CatalogueValue → List ℕ → Result (List TableLine) TableFault
table_in catalogue bytes =
    unless (first_fault (fault_at catalogue) [] (lines bytes)) (flat_map (lines_on catalogue) (lines bytes))

-- ---- line by line

-- what the line of this number says, or its fault
unfoldable pub line_in : CatalogueValue → ℕ → List ℕ → Result (List TableLine) TableFault
line_in catalogue number line = unless (line_fault catalogue number line) (lines_on catalogue line)

-- the line of this number by its parts that are there, or the first fault among those that aren't
abbrev pub line_or_fault : ℕ → WrittenLine → Option ℕ → Option (List Condition) → Option (List Instruction)
    → Result TableLine TableFault
line_or_fault number line None conditions instructions = Err (UnknownName number)
line_or_fault number line (Some class) None instructions = Err (UnknownName number)
line_or_fault number line (Some class) (Some conditions) None = Err (UnknownProcedure number)
line_or_fault number line (Some class) (Some conditions) (Some instructions) =
    Ok (line_as line class conditions instructions)

abbrev pub coded_line_or_fault : CatalogueValue → ℕ → WrittenLine → Result TableLine TableFault
coded_line_or_fault catalogue number line =
    line_or_fault number line (code_in catalogue.classes line.class)
    (each (named_condition catalogue) line.conditions) (each instruction_in line.instructions)

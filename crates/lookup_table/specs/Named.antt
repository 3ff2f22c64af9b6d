-- The names and procedures of a line, looked up.
use Rattle.std.specs.Prelude.{ℕ, Bool, ◌||◌, if◌then◌else◌, List, [], ◌∷◌, ◌++◌, take, codes}
use Rattle.std.specs.Prelude.{Option, Some, None, is_none, option_map}
use Rattle.std.specs.List.{list_any}
use Rattle.std.specs.Str.{bytes_eq}
use Rattle.chart_model.specs.Answers.{when, first_of}
use Rattle.object_catalogue.specs.Codes.{CatalogueValue, code_in}
use Rattle.lookup_table.specs.declared.condition.Condition.{Condition}
use Rattle.lookup_table.specs.declared.instruction.Instruction.{Instruction}
use Rattle.lookup_table.specs.declared.instruction.Instruction.TheVariants.{Draw, Call}
use Rattle.lookup_table.specs.declared.instruction.Procedure.{Procedure}
use Rattle.lookup_table.specs.declared.instruction.Procedure.TheVariants.{Depare01, Depcnt02}
use Rattle.lookup_table.specs.declared.instruction.Procedure.TheVariants.{Soundg02, Obstrn04, Wrecks02}
use Rattle.lookup_table.specs.declared.line.TableLine.{TableLine}
use Rattle.lookup_table.specs.declared.written.WrittenCondition.{WrittenCondition}
use Rattle.lookup_table.specs.declared.written.WrittenLine.{WrittenLine}
use Rattle.lookup_table.specs.Reading.{each}

-- `CS` calls a procedure
abbrev pub calls_procedure : List ℕ → Bool
calls_procedure text = bytes_eq (take 2 text) (codes "CS")

-- the text calls the procedure of that name
abbrev pub calls : List ℕ → List ℕ → Bool
calls name text = bytes_eq text (codes "CS(" ++ (name ++ codes ")"))

-- the procedure that a text calls, where there is one of that name
abbrev pub procedure_of : List ℕ → Option Procedure
procedure_of text =
    first_of (
    when (calls (codes "DEPARE01") text) Depare01
    ∷ when (calls (codes "DEPCNT02") text) Depcnt02
    ∷ when (calls (codes "SOUNDG02") text) Soundg02
    ∷ when (calls (codes "OBSTRN04") text) Obstrn04
    ∷ when (calls (codes "WRECKS02") text) Wrecks02
    ∷ []
    )

-- the instruction that a text writes
abbrev pub instruction_in : List ℕ → Option Instruction
instruction_in text = if calls_procedure text then option_map Call (procedure_of text) else Some (Draw text)

-- a condition by its attribute's code
abbrev pub condition_with_code : WrittenCondition → Option ℕ → Option Condition
condition_with_code condition None = None
condition_with_code condition (Some code) = Some (record { attribute = code; test = condition.test })

abbrev pub named_condition : CatalogueValue → WrittenCondition → Option Condition
named_condition catalogue condition = condition_with_code condition (code_in catalogue.attributes condition.attribute)

-- the line with this class, these conditions and these instructions
abbrev pub line_as : WrittenLine → ℕ → List Condition → List Instruction → TableLine
line_as line class conditions instructions = record {
  class = class;
  geom = line.geom;
  priority = line.priority;
  conditions = conditions;
  instructions = instructions;
}

abbrev pub line_with : WrittenLine → Option ℕ → Option (List Condition) → Option (List Instruction) → Option TableLine
line_with line None conditions instructions = None
line_with line (Some class) None instructions = None
line_with line (Some class) (Some conditions) None = None
line_with line (Some class) (Some conditions) (Some instructions) = Some (line_as line class conditions instructions)

-- the line with codes in place of acronyms, where all its names and procedures are there
abbrev pub coded_line : CatalogueValue → WrittenLine → Option TableLine
coded_line catalogue line =
    line_with line (code_in catalogue.classes line.class)
    (each (named_condition catalogue) line.conditions) (each instruction_in line.instructions)

-- the class or an attribute isn't in the catalogue
abbrev pub has_unknown_name : CatalogueValue → WrittenLine → Bool
has_unknown_name catalogue line =
    is_none (code_in catalogue.classes line.class)
    || list_any (λ condition. is_none (code_in catalogue.attributes condition.attribute)) line.conditions

-- an instruction calls a procedure that isn't there
abbrev pub has_unknown_procedure : WrittenLine → Bool
has_unknown_procedure line = list_any (λ text. is_none (instruction_in text)) line.instructions

-- A line of a table, with its names looked up, or its fault.
use Rattle.std.proofs.Common.{◌≡◌, ℕ, ◌≤◌, Bool, false, cond, ◌&&◌, ◌||◌, ltb, List, [], ◌∷◌, ◌++◌, Option, Some, None, refl, sym, ap, ◌∙◌, arith}
use Rattle.std.specs.Prelude.{is_none, not, Result, Ok, Err}
use Rattle.std.specs.Option.{option_to_list}
use Rattle.std.specs.List.{flat_map, list_any}
use Rattle.std.proofs.lemmas.Bool.Decides.{nat_tests}
use Rattle.chart_model.specs.Answers.{when, first_of, unless}
use Rattle.chart_model.specs.Memory.{Fails}
use Rattle.text_lines.specs.Lines.{is_silent}
use Rattle.object_catalogue.specs.Codes.{CatalogueValue, code_in}
use Rattle.lookup_table.specs.declared.condition.Condition.{Condition}
use Rattle.lookup_table.specs.declared.fault.TableFault.{TableFault}
use Rattle.lookup_table.specs.declared.fault.TableFault.TheVariants.{BadLine, UnknownName, UnknownProcedure, NoMemory}
use Rattle.lookup_table.specs.declared.instruction.Instruction.{Instruction}
use Rattle.lookup_table.specs.declared.line.TableLine.{TableLine}
use Rattle.lookup_table.specs.declared.written.WrittenCondition.{WrittenCondition}
use Rattle.lookup_table.specs.declared.written.WrittenLine.{WrittenLine}
use Rattle.lookup_table.specs.Reading.{each, written_of}
use Rattle.lookup_table.specs.Named.{condition_with_code, named_condition, instruction_in, line_with, coded_line, has_unknown_name, has_unknown_procedure}
use Rattle.lookup_table.specs.Lines.{line_in, line_or_fault, coded_line_or_fault}
use Rattle.lookup_table.proofs.Each.{each-missing}

-- the same, of one line
abbrev pub listed : Result TableLine TableFault → Result (List TableLine) TableFault
listed (Ok line) = Ok (line ∷ [])
listed (Err fault) = Err fault

by_parts : (number : ℕ) (line : WrittenLine) (class : Option ℕ) (conditions : Option (List Condition)) (instructions : Option (List Instruction))
    → unless (first_of (when ((is_none class || is_none conditions) || false) (UnknownName number) ∷ when (is_none instructions || false) (UnknownProcedure number) ∷ []))
    (option_to_list (line_with line class conditions instructions) ++ [])
    ≡ listed (line_or_fault number line class conditions instructions)
by_parts number line None conditions instructions = refl
by_parts number line (Some class) None instructions = refl
by_parts number line (Some class) (Some conditions) None = refl
by_parts number line (Some class) (Some conditions) (Some instructions) = refl

code_missing : (condition : WrittenCondition) (code : Option ℕ) → is_none (condition_with_code condition code) ≡ is_none code
code_missing condition None = refl
code_missing condition (Some code) = refl

names_missing : (catalogue : CatalogueValue) (conditions : List WrittenCondition)
    → list_any (λ condition. is_none (named_condition catalogue condition)) conditions ≡ list_any (λ condition. is_none (code_in catalogue.attributes condition.attribute)) conditions
names_missing catalogue [] = refl
names_missing catalogue (c ∷ cs) = λ i. code_missing c (code_in catalogue.attributes c.attribute) i || names_missing catalogue cs i

unknown_name : (catalogue : CatalogueValue) (line : WrittenLine)
    → has_unknown_name catalogue line ≡ (is_none (code_in catalogue.classes line.class) || is_none (each (named_condition catalogue) line.conditions))
unknown_name catalogue line =
    ap (λ (b : Bool). is_none (code_in catalogue.classes line.class) || b)
    (sym (each-missing (named_condition catalogue) line.conditions ∙ names_missing catalogue line.conditions))

unknown_procedure : (line : WrittenLine) → has_unknown_procedure line ≡ is_none (each instruction_in line.instructions)
unknown_procedure line = sym (each-missing instruction_in line.instructions)

-- what a line says, or its fault, by the tests that decide
abbrev whole : CatalogueValue → ℕ → Bool → Bool → Option WrittenLine → Result (List TableLine) TableFault
whole catalogue number late silent written =
    let line = cond silent [] (option_to_list written) in
    unless (first_of (
    when late (BadLine number)
    ∷ when (not silent && is_none written) (BadLine number)
    ∷ when (list_any (has_unknown_name catalogue) line) (UnknownName number)
    ∷ when (list_any has_unknown_procedure line) (UnknownProcedure number)
    ∷ []
    )) (flat_map (λ w. option_to_list (coded_line catalogue w)) line)

in_time : (number : ℕ) → number ≤ 10000 → ltb 10000 number ≡ false
in_time number h = grind (arith, nat_tests)

-- a line that is written
pub named_line : (catalogue : CatalogueValue) (number : ℕ) (line : List ℕ) (written : WrittenLine) → number ≤ 10000 → is_silent line ≡ false → written_of line ≡ Some written
    → line_in catalogue number line ≡ listed (coded_line_or_fault catalogue number written)
unfolding line_in
named_line catalogue number line written few speaks is =
    (λ i. whole catalogue number (in_time number few i) (speaks i) (is i))
    ∙ (λ i. unless (first_of (when (unknown_name catalogue written i || false) (UnknownName number) ∷ when (unknown_procedure written i || false) (UnknownProcedure number) ∷ []))
    (option_to_list (coded_line catalogue written) ++ []))
    ∙ by_parts number written (code_in catalogue.classes written.class) (each (named_condition catalogue) written.conditions) (each instruction_in written.instructions)

listed-ok : (answer : Result TableLine TableFault) (line : TableLine) → answer ≡ Ok line → listed answer ≡ Ok (line ∷ [])
listed-ok answer line e = ap listed e

pub named_taken : (catalogue : CatalogueValue) (number : ℕ) (line : List ℕ) (written : WrittenLine) (said : TableLine) → number ≤ 10000 → is_silent line ≡ false → written_of line ≡ Some written
    → coded_line_or_fault catalogue number written ≡ Ok said → line_in catalogue number line ≡ Ok (said ∷ [])
named_taken catalogue number line written said few speaks is e = named_line catalogue number line written few speaks is ∙ listed-ok _ said e

refused : (catalogue : CatalogueValue) (number : ℕ) (line : List ℕ) (written : WrittenLine) (f : TableFault) → number ≤ 10000 → is_silent line ≡ false → written_of line ≡ Some written
    → coded_line_or_fault catalogue number written ≡ Err f → line_in catalogue number line ≡ Err f
refused catalogue number line written f few speaks is e = named_line catalogue number line written few speaks is ∙ ap listed e

pub named_refused : (catalogue : CatalogueValue) (number : ℕ) (line : List ℕ) (written : WrittenLine) (f : TableFault) → number ≤ 10000 → is_silent line ≡ false → written_of line ≡ Some written
    → Fails NoMemory f (coded_line_or_fault catalogue number written) → Fails NoMemory f (line_in catalogue number line)
named_refused catalogue number line written f few speaks is h =
    λ differs. refused catalogue number line written f few speaks is (h differs)

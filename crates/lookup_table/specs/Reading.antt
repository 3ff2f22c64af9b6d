-- A line of a table as it is written, as a function.
use Rattle.std.specs.Prelude.{ℕ, ◌-◌, nat_le, ◌&&◌, if◌then◌else◌, List, [], ◌∷◌, length, codes}
use Rattle.std.specs.Prelude.{Option, Some, None}
use Rattle.std.specs.List.{list_all, join_with_byte}
use Rattle.std.specs.Str.{bytes_eq}
use Rattle.chart_model.specs.declared.drawing.Geom.{Geom}
use Rattle.chart_model.specs.declared.drawing.Geom.TheVariants.{Area, Line, Point}
use Rattle.text_lines.specs.Lines.{parts_at}
use Rattle.object_catalogue.specs.Acronym.{acronym_of}
use Rattle.lookup_table.specs.declared.condition.Test.{Test}
use Rattle.lookup_table.specs.declared.condition.Test.TheVariants.{Equals, Empty, Filled}
use Rattle.lookup_table.specs.declared.written.WrittenCondition.{WrittenCondition}
use Rattle.lookup_table.specs.declared.written.WrittenLine.{WrittenLine}
use Rattle.lookup_table.specs.Written.{is_text_byte, is_instruction}

-- what each part is, where every part is something
abbrev pub behind : {X : Type 0} → Option X → Option (List X) → Option (List X)
behind (Some x) (Some xs) = Some (x ∷ xs)
behind (Some x) None = None
behind None xs = None

unfoldable pub each : {X Y : Type 0} → (X → Option Y) → List X → Option (List Y)
each f [] = Some []
each f (x ∷ xs) = behind (f x) (each f xs)

-- ---- conditions

abbrev pub test_of : List ℕ → Option Test
test_of text =
    if bytes_eq text (codes "?") then Some Empty
    else if bytes_eq text (codes "*") then Some Filled
    else if nat_le 1 (length text) && list_all is_text_byte text then Some (Equals text)
    else None

abbrev pub condition_with : Option (List ℕ) → Option Test → Option WrittenCondition
condition_with (Some attribute) (Some test) = Some (record { attribute = attribute; test = test })
condition_with (Some attribute) None = None
condition_with None test = None

-- the condition of what stands between the `=` of a text: the test is all behind the first
unfoldable pub condition_in : List (List ℕ) → Option WrittenCondition
condition_in [] = None
condition_in (attribute ∷ []) = None
condition_in (attribute ∷ first ∷ more) =
    condition_with (acronym_of attribute) (test_of (join_with_byte 61 (first ∷ more)))

abbrev pub condition_of : List ℕ → Option WrittenCondition
condition_of text = condition_in (parts_at 61 text)

abbrev pub conditions_of : List ℕ → Option (List WrittenCondition)
conditions_of word = if bytes_eq word (codes "-") then Some [] else each condition_of (parts_at 43 word)

-- ---- instructions

abbrev pub instruction_of : List ℕ → Option (List ℕ)
instruction_of text = if is_instruction text then Some text else None

abbrev pub instructions_of : List ℕ → Option (List (List ℕ))
instructions_of text = if bytes_eq text (codes "-") then Some [] else each instruction_of (parts_at 59 text)

-- ---- lines

abbrev pub geom_of : List ℕ → Option Geom
geom_of word =
    if bytes_eq word (codes "A") then Some Area
    else if bytes_eq word (codes "L") then Some Line
    else if bytes_eq word (codes "P") then Some Point
    else None

abbrev pub priority_of : List ℕ → Option ℕ
priority_of [] = None
priority_of (digit ∷ []) = if nat_le 48 digit && nat_le digit 57 then Some (digit - 48) else None
priority_of (digit ∷ other ∷ more) = None

-- a line, where each of its parts is there
abbrev pub written_with : Option (List ℕ) → Option Geom → Option ℕ
    → Option (List WrittenCondition) → Option (List (List ℕ)) → Option WrittenLine
written_with None geom priority conditions instructions = None
written_with (Some class) None priority conditions instructions = None
written_with (Some class) (Some geom) None conditions instructions = None
written_with (Some class) (Some geom) (Some priority) None instructions = None
written_with (Some class) (Some geom) (Some priority) (Some conditions) None = None
written_with (Some class) (Some geom) (Some priority) (Some conditions) (Some instructions) = Some (record {
  class = class;
  geom = geom;
  priority = priority;
  conditions = conditions;
  instructions = instructions;
})

-- the line of what stands between the spaces of a text: the instructions are all behind the fourth
unfoldable pub written_in : List (List ℕ) → Option WrittenLine
written_in [] = None
written_in (class ∷ []) = None
written_in (class ∷ geom ∷ []) = None
written_in (class ∷ geom ∷ priority ∷ []) = None
written_in (class ∷ geom ∷ priority ∷ conditions ∷ []) = None
written_in (class ∷ geom ∷ priority ∷ conditions ∷ first ∷ more) =
    written_with (acronym_of class) (geom_of geom) (priority_of priority) (conditions_of conditions)
    (instructions_of (join_with_byte 32 (first ∷ more)))

abbrev pub written_of : List ℕ → Option WrittenLine
written_of line = written_in (parts_at 32 line)

-- How a line of a table is spelled.
use Rattle.std.specs.Prelude.{◌≡◌, ◌≢◌, ℕ, ◌+◌, ◌≤◌, nat_le, Bool, false, not, ◌&&◌, ◌||◌, ◌==◌, List, [], ◌∷◌, ◌++◌, ⊤}
use Rattle.std.specs.Prelude.{length, All, codes}
use Rattle.std.specs.Prelude as list
use Rattle.std.specs.List.{join_with_byte}
use Rattle.chart_model.specs.declared.drawing.Geom.{Geom}
use Rattle.chart_model.specs.declared.drawing.Geom.TheVariants.{Area, Line, Point}
use Rattle.object_catalogue.specs.Acronym.{IsAcronym}
use Rattle.lookup_table.specs.declared.condition.Test.{Test}
use Rattle.lookup_table.specs.declared.condition.Test.TheVariants.{Equals, Empty, Filled}
use Rattle.lookup_table.specs.declared.written.WrittenCondition.{WrittenCondition}
use Rattle.lookup_table.specs.declared.written.WrittenLine.{WrittenLine}

-- ---- conditions

-- a visible byte, and no `+`
abbrev pub IsTextByte : ℕ → Type 0
IsTextByte byte = ((33 ≤ byte) × (byte ≤ 126)) × (byte ≢ 43)

-- the text of a condition: one such byte or more; `?` and `*` alone are other tests
pub record IsText (text : List ℕ) : Type 0 where
  pub nonempty : 1 ≤ length text
  pub visible : All IsTextByte text
  pub no_question : text ≢ codes "?"
  pub no_star : text ≢ codes "*"

abbrev pub IsTest : Test → Type 0
IsTest (Equals text) = IsText text
IsTest Empty = ⊤
IsTest Filled = ⊤

abbrev pub test_text : Test → List ℕ
test_text (Equals text) = text
test_text Empty = codes "?"
test_text Filled = codes "*"

pub record IsCondition (condition : WrittenCondition) : Type 0 where
  pub attribute : IsAcronym condition.attribute
  pub test : IsTest condition.test

-- the attribute's acronym, `=` and the test
abbrev pub condition_text : WrittenCondition → List ℕ
condition_text condition = condition.attribute ++ 61 ∷ test_text condition.test

-- `-`, or conditions joined by `+`
abbrev pub conditions_text : List WrittenCondition → List ℕ
conditions_text [] = codes "-"
conditions_text (first ∷ more) = join_with_byte 43 (condition_text first ∷ list.map condition_text more)

-- ---- instructions

abbrev pub IsCapital : ℕ → Type 0
IsCapital byte = (65 ≤ byte) × (byte ≤ 90)

-- a printable byte, and no `(`, `)` or `;`
abbrev pub IsPlain : ℕ → Type 0
IsPlain byte = ((32 ≤ byte) × (byte ≤ 126)) × ((byte ≢ 40) × ((byte ≢ 41) × (byte ≢ 59)))

-- two capital letters and a text in parentheses
pub record IsInstruction (text : List ℕ) : Type 0 where
  pub first : ℕ
  pub second : ℕ
  pub inner : List ℕ
  pub spelled : text ≡ first ∷ second ∷ 40 ∷ (inner ++ 41 ∷ [])
  pub capitals : IsCapital first × IsCapital second
  pub plain : All IsPlain inner

-- `-`, or instructions joined by `;`
abbrev pub instructions_text : List (List ℕ) → List ℕ
instructions_text [] = codes "-"
instructions_text (first ∷ more) = join_with_byte 59 (first ∷ more)

-- ---- lines

abbrev pub geom_text : Geom → List ℕ
geom_text Area = codes "A"
geom_text Line = codes "L"
geom_text Point = codes "P"

abbrev pub line_text : WrittenLine → List ℕ
line_text line =
    join_with_byte 32 (
    line.class
    ∷ geom_text line.geom
    ∷ ((48 + line.priority) ∷ [])
    ∷ conditions_text line.conditions
    ∷ instructions_text line.instructions
    ∷ []
    )

pub record IsWritten (line : WrittenLine) : Type 0 where
  pub class : IsAcronym line.class
  pub priority : line.priority ≤ 9
  pub conditions : All IsCondition line.conditions
  pub instructions : All IsInstruction line.instructions

-- the line is spelled so
pub record Spells (line : List ℕ) (written : WrittenLine) : Type 0 where
  pub is_written : IsWritten written
  pub spelled : line ≡ line_text written

-- ---- the same as tests

abbrev pub is_text_byte : ℕ → Bool
is_text_byte byte = (nat_le 33 byte && nat_le byte 126) && not (byte == 43)

abbrev pub is_capital : ℕ → Bool
is_capital byte = nat_le 65 byte && nat_le byte 90

abbrev pub is_plain : ℕ → Bool
is_plain byte = (nat_le 32 byte && nat_le byte 126) && not ((byte == 40) || ((byte == 41) || (byte == 59)))

-- the bytes of a text in parentheses, behind the first of these
unfoldable pub is_closed : List ℕ → Bool
is_closed [] = false
is_closed (last ∷ []) = last == 41
is_closed (byte ∷ next ∷ more) = is_plain byte && is_closed (next ∷ more)

unfoldable pub is_instruction : List ℕ → Bool
is_instruction [] = false
is_instruction (first ∷ []) = false
is_instruction (first ∷ second ∷ []) = false
is_instruction (first ∷ second ∷ third ∷ rest) =
    is_capital first && (is_capital second && ((third == 40) && is_closed rest))

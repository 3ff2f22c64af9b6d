-- How far a file of colours is read.
use Rattle.std.proofs.Common.{◌≡◌, ℕ, ◌+◌, List, [], ◌∷◌, ◌++◌, length, Option, sym, ap, ◌∙◌, subst}
use Rattle.std.specs.Prelude.{Result, Ok, Err}
use Rattle.std.specs.Str.Lines.{lines}
use Rattle.chart_model.specs.Answers.{unless}
use Rattle.chart_model.specs.Memory.{Fails}
use Rattle.text_lines.specs.Lines.{numbered_lines}
use Rattle.text_lines.proofs.LinesSoFar.{ArePassed, none_passed, next_number, one_passed, fault_found, all_passed}
use Rattle.colour_table.specs.Answers.{Answers}
use Rattle.colour_table.specs.Reading.{colours_on, colours_in, fault_at, line_in}
use Rattle.colour_table.specs.declared.swatch.Swatch.{Swatch}
use Rattle.colour_table.specs.declared.fault.ColoursFault.{ColoursFault}
use Rattle.colour_table.specs.declared.fault.ColoursFault.TheVariants.{NoMemory}
use Rattle.colour_table.proofs.Lines.{line_taken, line_refused}

-- the lines before those that are left have no fault, and say what the colours are
pub record IsReadSoFar (bytes : List ℕ) (colours : List Swatch) (left : List (ℕ × List ℕ)) : Type 0 where
  pub before : List (List ℕ)
  pub passed : ArePassed fault_at bytes left before
  pub said : colours ≡ colours_on before

pub read_none : (bytes : List ℕ) (left : List (ℕ × List ℕ)) (colours : List Swatch) → left ≡ numbered_lines bytes → colours ≡ []
    → IsReadSoFar bytes colours left
read_none bytes left colours all e = record {
  before = [];
  passed = none_passed fault_at bytes left all;
  said = e;
}

module _ (bytes : List ℕ) (left others : List (ℕ × List ℕ)) (number : ℕ) (line : List ℕ) (colours : List Swatch)
    (so_far : IsReadSoFar bytes colours left) (next : left ≡ (number, line) ∷ others) where
  counted : number ≡ length so_far.before + 1
  counted = next_number fault_at bytes left others number line so_far.before so_far.passed next

  -- the line, behind those that are passed
  in_place : line_in (colours_on so_far.before) (length so_far.before + 1) line ≡ line_in colours number line
  in_place = λ i. line_in (sym so_far.said i) (sym counted i) line

  pub read_more : (more : List Swatch) → line_in colours number line ≡ Ok more → IsReadSoFar bytes more others
  read_more more e =
      let taken = line_taken so_far.before line more (in_place ∙ e) in
      record {
        before = so_far.before ++ line ∷ [];
        passed = one_passed fault_at bytes left others number line so_far.before so_far.passed next taken.0;
        said = taken.1;
      }

  fails : (f : ColoursFault) → line_in colours number line ≡ Err f → colours_in bytes ≡ Err f
  fails f e =
      let refused = line_refused so_far.before line f (in_place ∙ e) in
      ap (λ (o : Option ColoursFault). unless o (colours_on (lines bytes)))
      (fault_found fault_at bytes left others number line so_far.before so_far.passed next f refused)

  -- a line's fault is that of the file
  pub read_fault : (f : ColoursFault) → Fails NoMemory f (line_in colours number line) → Fails NoMemory f (colours_in bytes)
  read_fault f h = λ differs. fails f (h differs)

abbrev ok : List Swatch → Result (List Swatch) ColoursFault
ok c = Ok c

pub read_all : (bytes : List ℕ) (left : List (ℕ × List ℕ)) (colours : List Swatch) → IsReadSoFar bytes colours left → left ≡ [] → colours_in bytes ≡ Ok colours
read_all bytes left colours so_far end =
    let all = all_passed fault_at bytes left so_far.before so_far.passed end in
    ap (λ (o : Option ColoursFault). unless o (colours_on (lines bytes))) all.1
    ∙ ap ok (ap colours_on all.0 ∙ sym so_far.said)

-- a fault that is passed on
pub failed : (answer : Result (List Swatch) ColoursFault) (f g : ColoursFault) (wanted : Result (List Swatch) ColoursFault)
    → answer ≡ Err g → g ≡ f → Fails NoMemory f wanted → Answers answer wanted
failed answer f g wanted e same h =
    subst (λ (r : Result (List Swatch) ColoursFault). Answers r wanted) (sym e) (subst (λ (x : ColoursFault). Fails NoMemory x wanted) (sym same) h)

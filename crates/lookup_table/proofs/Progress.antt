-- How far a table is read.
use Rattle.std.proofs.Common.{◌≡◌, ℕ, ◌+◌, List, [], ◌∷◌, ◌++◌, length, Option, Some, None, refl, sym, ap, ◌∙◌, subst, append-nil}
use Rattle.std.specs.Prelude.{Result, Ok, Err}
use Rattle.std.specs.Option.{option_to_list}
use Rattle.std.specs.List.{flat_map}
use Rattle.std.specs.Str.Lines.{lines}
use Rattle.std.proofs.lemmas.List.Concat.{flat_map-append}
use Rattle.chart_model.specs.Answers.{unless}
use Rattle.chart_model.specs.Memory.{Fails}
use Rattle.text_lines.specs.Lines.{numbered_lines}
use Rattle.text_lines.proofs.LinesSoFar.{ArePassed, none_passed, next_number, one_passed, fault_found, all_passed}
use Rattle.object_catalogue.specs.Codes.{CatalogueValue}
use Rattle.lookup_table.specs.Answers.{Answers, AnswersLine}
use Rattle.lookup_table.specs.Lines.{lines_on, table_in, fault_at, line_fault, line_in}
use Rattle.lookup_table.specs.declared.fault.TableFault.{TableFault}
use Rattle.lookup_table.specs.declared.fault.TableFault.TheVariants.{NoMemory}
use Rattle.lookup_table.specs.declared.line.TableLine.{TableLine}

-- the lines before those that are left have no fault, and say what the table has
pub record IsReadSoFar (catalogue : CatalogueValue) (bytes : List ℕ) (table : List TableLine) (left : List (ℕ × List ℕ)) : Type 0 where
  pub before : List (List ℕ)
  pub passed : ArePassed (fault_at catalogue) bytes left before
  pub has : table ≡ flat_map (lines_on catalogue) before

module _ (catalogue : CatalogueValue) where
  by_fault : (o : Option TableFault) (x y : List TableLine) → unless o x ≡ Ok y → (o ≡ None) × (x ≡ y)
  by_fault None x y e = (refl, cc)
  by_fault (Some f) x y e = absurd cc

  by_error : (o : Option TableFault) (x : List TableLine) (f : TableFault) → unless o x ≡ Err f → o ≡ Some f
  by_error None x f e = absurd cc
  by_error (Some g) x f e = cc

  line_taken : (before : List (List ℕ)) (line : List ℕ) (more : List TableLine) → line_in catalogue (length before + 1) line ≡ Ok more
      → (fault_at catalogue before line ≡ None) × (lines_on catalogue line ≡ more)
  unfolding line_in
  line_taken before line more e = by_fault (line_fault catalogue (length before + 1) line) (lines_on catalogue line) more e

  line_refused : (before : List (List ℕ)) (line : List ℕ) (f : TableFault) → line_in catalogue (length before + 1) line ≡ Err f → fault_at catalogue before line ≡ Some f
  unfolding line_in
  line_refused before line f e = by_error (line_fault catalogue (length before + 1) line) (lines_on catalogue line) f e

  pub read_none : (bytes : List ℕ) (left : List (ℕ × List ℕ)) (table : List TableLine) → left ≡ numbered_lines bytes → table ≡ []
      → IsReadSoFar catalogue bytes table left
  read_none bytes left table all e = record {
    before = [];
    passed = none_passed (fault_at catalogue) bytes left all;
    has = e;
  }

  one_more : (before : List (List ℕ)) (line : List ℕ) → flat_map (lines_on catalogue) (before ++ line ∷ []) ≡ flat_map (lines_on catalogue) before ++ lines_on catalogue line
  one_more before line =
      flat_map-append (lines_on catalogue) before (line ∷ []) ∙ ap (λ (l : List TableLine). flat_map (lines_on catalogue) before ++ l) (append-nil (lines_on catalogue line))

  abbrev ok : List TableLine → Result (List TableLine) TableFault
  ok table = Ok table

  pub read_all : (bytes : List ℕ) (left : List (ℕ × List ℕ)) (table : List TableLine) → IsReadSoFar catalogue bytes table left → left ≡ [] → table_in catalogue bytes ≡ Ok table
  read_all bytes left table so_far end =
      let all = all_passed (fault_at catalogue) bytes left so_far.before so_far.passed end in
      ap (λ (o : Option TableFault). unless o (flat_map (lines_on catalogue) (lines bytes))) all.1
      ∙ ap (λ (l : List TableLine). ok l) (ap (flat_map (lines_on catalogue)) all.0 ∙ sym so_far.has)

module _ (catalogue : CatalogueValue) (bytes : List ℕ) (left others : List (ℕ × List ℕ)) (number : ℕ) (line : List ℕ) (table : List TableLine)
    (so_far : IsReadSoFar catalogue bytes table left) (next : left ≡ (number, line) ∷ others) where
  -- the line, behind those that are passed
  in_place : line_in catalogue (length so_far.before + 1) line ≡ line_in catalogue number line
  in_place =
      ap (λ (n : ℕ). line_in catalogue n line)
      (sym (next_number (fault_at catalogue) bytes left others number line so_far.before so_far.passed next))

  pub read_more : (more : Option TableLine) (grown : List TableLine) → line_in catalogue number line ≡ Ok (option_to_list more)
      → grown ≡ table ++ option_to_list more → IsReadSoFar catalogue bytes grown others
  read_more more grown e is =
      let taken = line_taken catalogue so_far.before line (option_to_list more) (in_place ∙ e) in
      record {
        before = so_far.before ++ line ∷ [];
        passed = one_passed (fault_at catalogue) bytes left others number line so_far.before so_far.passed next taken.0;
        has = is ∙ (λ i. so_far.has i ++ sym taken.1 i) ∙ sym (one_more catalogue so_far.before line);
      }

  fails : (f : TableFault) → line_in catalogue number line ≡ Err f → table_in catalogue bytes ≡ Err f
  fails f e =
      let refused = line_refused catalogue so_far.before line f (in_place ∙ e) in
      ap (λ (o : Option TableFault). unless o (flat_map (lines_on catalogue) (lines bytes)))
      (fault_found (fault_at catalogue) bytes left others number line so_far.before so_far.passed next f refused)

  -- a line's fault is that of the file
  pub read_fault : (f : TableFault) → Fails NoMemory f (line_in catalogue number line) → Fails NoMemory f (table_in catalogue bytes)
  read_fault f h = λ differs. fails f (h differs)

-- a fault that is passed on
pub failed : (answer : Result (List TableLine) TableFault) (f g : TableFault) (wanted : Result (List TableLine) TableFault)
    → answer ≡ Err g → g ≡ f → Fails NoMemory f wanted → Answers answer wanted
failed answer f g wanted e same h =
    subst (λ (r : Result (List TableLine) TableFault). Answers r wanted) (sym e) (subst (λ (x : TableFault). Fails NoMemory x wanted) (sym same) h)

pub line_failed : (answer : Result (Option TableLine) TableFault) (f g : TableFault) (wanted : Result (List TableLine) TableFault)
    → answer ≡ Err g → g ≡ f → Fails NoMemory f wanted → AnswersLine answer wanted
line_failed answer f g wanted e same h =
    subst (λ (r : Result (Option TableLine) TableFault). AnswersLine r wanted) (sym e) (subst (λ (x : TableFault). Fails NoMemory x wanted) (sym same) h)

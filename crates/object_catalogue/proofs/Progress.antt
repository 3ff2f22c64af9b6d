-- How far a catalogue is read.
use Rattle.std.proofs.Common.{◌≡◌, ℕ, ◌+◌, List, [], ◌∷◌, ◌++◌, length, Option, sym, ap, ◌∙◌, subst}
use Rattle.std.specs.Prelude.{Result, Ok, Err}
use Rattle.std.specs.Str.Lines.{lines}
use Rattle.chart_model.specs.Answers.{unless}
use Rattle.chart_model.specs.Memory.{Fails}
use Rattle.text_lines.specs.Lines.{numbered_lines}
use Rattle.text_lines.proofs.LinesSoFar.{ArePassed, none_passed, next_number, one_passed, fault_found, all_passed}
use Rattle.object_catalogue.specs.Answers.{Answers}
use Rattle.object_catalogue.specs.Codes.{CatalogueValue, empty_catalogue}
use Rattle.object_catalogue.specs.Reading.{catalogue_on, catalogue_in, fault_at, line_in}
use Rattle.object_catalogue.specs.declared.fault.CatalogueFault.{CatalogueFault}
use Rattle.object_catalogue.specs.declared.fault.CatalogueFault.TheVariants.{NoMemory}
use Rattle.object_catalogue.proofs.Lines.{line_taken, line_refused, no_lines as nothing_said}

-- the lines before those that are left have no fault, and say what the catalogue has
pub record IsReadSoFar (bytes : List ℕ) (catalogue : CatalogueValue) (left : List (ℕ × List ℕ)) : Type 0 where
  pub before : List (List ℕ)
  pub passed : ArePassed fault_at bytes left before
  pub said : catalogue ≡ catalogue_on before

pub read_none : (bytes : List ℕ) (left : List (ℕ × List ℕ)) (catalogue : CatalogueValue) → left ≡ numbered_lines bytes → catalogue ≡ empty_catalogue
    → IsReadSoFar bytes catalogue left
read_none bytes left catalogue all e = record {
  before = [];
  passed = none_passed fault_at bytes left all;
  said = e ∙ sym nothing_said;
}

module _ (bytes : List ℕ) (left others : List (ℕ × List ℕ)) (number : ℕ) (line : List ℕ) (catalogue : CatalogueValue)
    (so_far : IsReadSoFar bytes catalogue left) (next : left ≡ (number, line) ∷ others) where
  counted : number ≡ length so_far.before + 1
  counted = next_number fault_at bytes left others number line so_far.before so_far.passed next

  -- the line, behind those that are passed
  in_place : line_in (catalogue_on so_far.before) (length so_far.before + 1) line ≡ line_in catalogue number line
  in_place = λ i. line_in (sym so_far.said i) (sym counted i) line

  pub read_more : (more : CatalogueValue) → line_in catalogue number line ≡ Ok more → IsReadSoFar bytes more others
  read_more more e =
      let taken = line_taken so_far.before line more (in_place ∙ e) in
      record {
        before = so_far.before ++ line ∷ [];
        passed = one_passed fault_at bytes left others number line so_far.before so_far.passed next taken.0;
        said = taken.1;
      }

  fails : (f : CatalogueFault) → line_in catalogue number line ≡ Err f → catalogue_in bytes ≡ Err f
  fails f e =
      let refused = line_refused so_far.before line f (in_place ∙ e) in
      ap (λ (o : Option CatalogueFault). unless o (catalogue_on (lines bytes)))
      (fault_found fault_at bytes left others number line so_far.before so_far.passed next f refused)

  -- a line's fault is that of the file
  pub read_fault : (f : CatalogueFault) → Fails NoMemory f (line_in catalogue number line) → Fails NoMemory f (catalogue_in bytes)
  read_fault f h = λ differs. fails f (h differs)

abbrev ok : CatalogueValue → Result CatalogueValue CatalogueFault
ok c = Ok c

pub read_all : (bytes : List ℕ) (left : List (ℕ × List ℕ)) (catalogue : CatalogueValue) → IsReadSoFar bytes catalogue left → left ≡ [] → catalogue_in bytes ≡ Ok catalogue
read_all bytes left catalogue so_far end =
    let all = all_passed fault_at bytes left so_far.before so_far.passed end in
    ap (λ (o : Option CatalogueFault). unless o (catalogue_on (lines bytes))) all.1
    ∙ ap (λ (c : CatalogueValue). ok c) (ap catalogue_on all.0 ∙ sym so_far.said)

-- a fault that is passed on
pub failed : (answer : Result CatalogueValue CatalogueFault) (f g : CatalogueFault) (wanted : Result CatalogueValue CatalogueFault)
    → answer ≡ Err g → g ≡ f → Fails NoMemory f wanted → Answers answer wanted
failed answer f g wanted e same h =
    subst (λ (r : Result CatalogueValue CatalogueFault). Answers r wanted) (sym e) (subst (λ (x : CatalogueFault). Fails NoMemory x wanted) (sym same) h)

-- How far a file is read, line by line.
use Rattle.std.proofs.Common.{◌≡◌, ℕ, ◌+◌, List, [], ◌∷◌, ◌++◌, length, Option, Some, None, refl, sym, ap, ◌∙◌, append_assoc, append-nil, length-append, arith}
use Rattle.std.specs.List.{enumerate_from}
use Rattle.std.specs.Str.Lines.{lines}
use Rattle.text_lines.specs.Lines.{numbered_lines}
use Rattle.text_lines.specs.Reading.{first_fault}
use Rattle.text_lines.proofs.FirstFaults.{faultless_more, faulty, no_lines}

-- the first of numbered lines, and those behind it
record Begins (start : ℕ) (rest : List (List ℕ)) (n : ℕ) (line : List ℕ) (others : List (ℕ × List ℕ)) : Type 0 where
  more : List (List ℕ)
  whole : rest ≡ line ∷ more
  number : n ≡ start
  behind : others ≡ enumerate_from (start + 1) more

begins : (start : ℕ) (rest : List (List ℕ)) (n : ℕ) (line : List ℕ) (others : List (ℕ × List ℕ)) → (n, line) ∷ others ≡ enumerate_from start rest
    → Begins start rest n line others
begins start [] n line others e = absurd cc
begins start (x ∷ xs) n line others e =
    let pair : ◌≡◌ {A = ℕ × List ℕ} (n, line) (start, x) = cc in
    record {
      more = xs;
      whole = ap (λ (l : List ℕ). l ∷ xs) (sym (ap (λ (p : ℕ × List ℕ). p.1) pair));
      number = ap (λ (p : ℕ × List ℕ). p.0) pair;
      behind = cc;
    }

none_left : (start : ℕ) (rest : List (List ℕ)) → [] ≡ enumerate_from start rest → rest ≡ []
none_left start [] e = refl
none_left start (x ∷ xs) e = absurd cc

module _ {F : Type 0} (fault_at : List (List ℕ) → List ℕ → Option F) where
  -- these lines are passed, none of them has a fault, and the others are left with their numbers
  pub record ArePassed (bytes : List ℕ) (left : List (ℕ × List ℕ)) (before : List (List ℕ)) : Type 0 where
    pub rest : List (List ℕ)
    pub whole : lines bytes ≡ before ++ rest
    pub numbered : left ≡ enumerate_from (length before + 1) rest
    pub faultless : first_fault fault_at [] before ≡ None

  -- no line is passed yet
  pub none_passed : (bytes : List ℕ) (left : List (ℕ × List ℕ)) → left ≡ numbered_lines bytes → ArePassed bytes left []
  none_passed bytes left e = record { rest = lines bytes; whole = refl; numbered = e; faultless = no_lines fault_at [] }

  module _ (bytes : List ℕ) (left others : List (ℕ × List ℕ)) (n : ℕ) (line : List ℕ) (before : List (List ℕ))
      (passed : ArePassed bytes left before) (next : left ≡ (n, line) ∷ others) where
    first : Begins (length before + 1) passed.rest n line others
    first = begins (length before + 1) passed.rest n line others (sym next ∙ passed.numbered)

    in_place : lines bytes ≡ before ++ line ∷ first.more
    in_place = passed.whole ∙ ap (λ (l : List (List ℕ)). before ++ l) first.whole

    -- the next line's number is by one greater than that of lines passed
    pub next_number : n ≡ length before + 1
    next_number = first.number

    -- a line more is passed, which has no fault either
    pub one_passed : fault_at before line ≡ None → ArePassed bytes others (before ++ line ∷ [])
    one_passed faultless =
        let longer : (length before + 1) + 1 ≡ length (before ++ line ∷ []) + 1 = omega (arith, length-append before (line ∷ [])) in
        record {
          rest = first.more;
          whole = in_place ∙ sym (append_assoc before (line ∷ []) first.more);
          numbered = first.behind ∙ ap (λ (m : ℕ). enumerate_from m first.more) longer;
          faultless = faultless_more fault_at before line passed.faultless faultless;
        }

    -- the fault of the next line is the first of the file
    pub fault_found : (f : F) → fault_at before line ≡ Some f → first_fault fault_at [] (lines bytes) ≡ Some f
    fault_found f here = ap (first_fault fault_at []) in_place ∙ faulty fault_at before first.more line f passed.faultless here

  -- all lines are passed: they are those of the file, which has no fault
  pub all_passed : (bytes : List ℕ) (left : List (ℕ × List ℕ)) (before : List (List ℕ)) → ArePassed bytes left before → left ≡ []
      → (lines bytes ≡ before) × (first_fault fault_at [] (lines bytes) ≡ None)
  all_passed bytes left before passed end =
      let none = none_left (length before + 1) passed.rest (sym end ∙ passed.numbered) in
      let whole = passed.whole ∙ ap (λ (l : List (List ℕ)). before ++ l) none ∙ append-nil before in
      (whole, ap (first_fault fault_at []) whole ∙ passed.faultless)

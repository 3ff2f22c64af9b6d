-- How far a file is read, line by line, by what is left of its bytes.
use Rattle.std.proofs.Common.{◌≡◌, ℕ, ◌+◌, List, [], ◌∷◌, ◌++◌, length, Option, Some, None, refl, sym, ap, ◌∙◌, append_assoc, append-nil, length-append, arith}
use Rattle.std.specs.Str.Lines.{lines}
use Rattle.text_lines.specs.Reading.{first_fault}
use Rattle.text_lines.proofs.FirstFaults.{faultless_more, faulty, no_lines}

module _ {F : Type 0} (fault_at : List (List ℕ) → List ℕ → Option F) where
  -- so many lines are passed, none of them has a fault, and the others are those of the rest
  pub record ArePassed (bytes : List ℕ) (number : ℕ) (rest : List ℕ) (before : List (List ℕ)) : Type 0 where
    pub whole : lines bytes ≡ before ++ lines rest
    pub counted : number ≡ length before
    pub faultless : first_fault fault_at [] before ≡ None

  -- no line is passed yet
  pub none_passed : (bytes : List ℕ) → ArePassed bytes 0 bytes []
  none_passed bytes = record { whole = refl; counted = refl; faultless = no_lines fault_at [] }

  -- what is cut off the rest stands in the file behind the lines that are passed
  in_place : (bytes rest : List ℕ) (number : ℕ) (before cut : List (List ℕ)) → ArePassed bytes number rest before → lines rest ≡ cut → lines bytes ≡ before ++ cut
  in_place bytes rest number before cut passed is = passed.whole ∙ ap (λ (l : List (List ℕ)). before ++ l) is

  -- a line more is passed, which has no fault either
  pub one_passed : (bytes rest others line : List ℕ) (number : ℕ) (before : List (List ℕ)) → ArePassed bytes number rest before → lines rest ≡ line ∷ lines others
      → fault_at before line ≡ None → ArePassed bytes (number + 1) others (before ++ line ∷ [])
  one_passed bytes rest others line number before passed cut faultless = record {
    whole = in_place bytes rest number before (line ∷ lines others) passed cut ∙ sym (append_assoc before (line ∷ []) (lines others));
    counted = omega (arith, passed.counted, length-append before (line ∷ []));
    faultless = faultless_more fault_at before line passed.faultless faultless;
  }

  -- the fault of the next line is the first of the file
  pub fault_found : (bytes rest others line : List ℕ) (number : ℕ) (before : List (List ℕ)) (f : F) → ArePassed bytes number rest before → lines rest ≡ line ∷ lines others
      → fault_at before line ≡ Some f → first_fault fault_at [] (lines bytes) ≡ Some f
  fault_found bytes rest others line number before f passed cut here =
      ap (first_fault fault_at []) (in_place bytes rest number before (line ∷ lines others) passed cut)
      ∙ faulty fault_at before (lines others) line f passed.faultless here

  -- all lines are passed: they are those of the file, which has no fault
  pub all_passed : (bytes rest : List ℕ) (number : ℕ) (before : List (List ℕ)) → ArePassed bytes number rest before → lines rest ≡ []
      → (lines bytes ≡ before) × (first_fault fault_at [] (lines bytes) ≡ None)
  all_passed bytes rest number before passed end =
      let whole = in_place bytes rest number before [] passed end ∙ append-nil before in
      (whole, ap (first_fault fault_at []) whole ∙ passed.faultless)

-- The names of cell files, by what they are spelled of.
use Rattle.std.proofs.Common.{◌≡◌, inl, inr, ℕ, suc, ◌+◌, ◌-◌, ◌<◌, ◌≤◌, Bool, true, false, cond, ltb, eqb, ◌&&◌, List}
use Rattle.std.proofs.Common.{[], ◌∷◌, ◌++◌, length, get_or, take, drop, drop-cons, take-append-drop, Option, Some}
use Rattle.std.proofs.Common.{None, refl, sym, ap, ◌∙◌, subst, arith, length-append, length-drop}
use Rattle.std.specs.Prelude.{◌↔◌, option_map}
use Rattle.std.proofs.Math.Seq.{take-append_seam, drop-append_seam}
use Rattle.std.proofs.lemmas.Bool.{ltb-true, lt-ltb, eqb-true, and_parts, and_from}
use Rattle.std.proofs.lemmas.List.{length-take-le}
use Rattle.common_lemmas.proofs.Choices.{chosen, map_some}
use Rattle.text_scan.specs.Number.{IsNumber, value_of, number_of}
use Rattle.exchange_catalogue.specs.CellNames.{CellNameValue, SpellsCellName, cell_name_of}

abbrev pub NumbersAreSpelled : Type 0
NumbersAreSpelled = (text : List ℕ) (n : ℕ) → (number_of text ≡ Some n) ↔ (IsNumber text × (value_of text ≡ n))

abbrev cell_of : List ℕ → ℕ → ℕ → CellNameValue
cell_of name count number = record { stem = take count name; number = number }

pub spelled : NumbersAreSpelled → (name : List ℕ) (cell : CellNameValue) → cell_name_of name ≡ Some cell
    → SpellsCellName name cell
unfolding cell_name_of
spelled numbers name cell e =
    elim (chosen (ltb 4 (length name) && eqb (get_or name (length name - 4) 0) 46) _ _ (Some cell) e) [
      | inl h ↦ by (and_parts (ltb 4 (length name)) (eqb (get_or name (length name - 4) 0) 46) h.0) h.1
      | inr h ↦ absurd cc
    ]
  where
    digits : List ℕ
    digits = drop (length name - 3) name

    by : (ltb 4 (length name) ≡ true) × (eqb (get_or name (length name - 4) 0) 46 ≡ true)
        → option_map (cell_of name (length name - 4)) (number_of digits) ≡ Some cell
        → SpellsCellName name cell
    by tests found =
        let long : 4 < length name = ltb-true 4 (length name) tests.0 in
        let dot : get_or name (length name - 4) 0 ≡ 46 = eqb-true (get_or name (length name - 4) 0) 46 tests.1 in
        let one = map_some (cell_of name (length name - 4)) (number_of digits) cell found in
        let stem : take (length name - 4) name ≡ cell.stem = ap (λ (c : CellNameValue). c.stem) one.2 in
        let number = (numbers digits one.0).0 one.1 in
        let next : suc (length name - 4) ≡ length name - 3 = omega arith in
        let size : length (take (length name - 4) name) ≡ length name - 4 =
        length-take-le (length name - 4) name (omega arith) in
        record {
          digits = digits;
          parts =
              sym (take-append-drop (length name - 4) name)
              ∙ ap (λ (l : List ℕ). take (length name - 4) name ++ l)
              (drop-cons name (length name - 4) 0 (omega arith) ∙ (λ i. dot i ∷ drop (next i) name))
              ∙ ap (λ (l : List ℕ). l ++ 46 ∷ digits) stem;
          some = subst (λ (l : List ℕ). 0 < length l) stem (omega (arith, size));
          three = length-drop (length name - 3) name ∙ omega arith;
          number = number.0;
          value = sym (ap (λ (c : CellNameValue). c.number) one.2) ∙ sym number.1;
        }

named-is : NumbersAreSpelled → (stem digits : List ℕ) (number : ℕ) → 0 < length stem → length digits ≡ 3
    → IsNumber digits → number ≡ value_of digits
    → cell_name_of (stem ++ 46 ∷ digits) ≡ Some (record { stem = stem; number = number })
unfolding cell_name_of
named-is numbers stem digits number some three is value =
    let name = stem ++ 46 ∷ digits in
    let size : length name ≡ length stem + 4 = omega (arith, length-append stem (46 ∷ digits)) in
    let before : length name - 4 ≡ length stem = omega arith in
    let behind : length name - 3 ≡ suc (length stem) = omega arith in
    let rest : get_or name (length stem) 0 ∷ drop (suc (length stem)) name ≡ 46 ∷ digits =
    sym (drop-cons name (length stem) 0 (omega arith)) ∙ drop-append_seam stem (46 ∷ digits) in
    let dot : get_or name (length stem) 0 ≡ 46 = cc in
    let tail : drop (suc (length stem)) name ≡ digits = cc in
    let front : take (length stem) name ≡ stem = take-append_seam stem (46 ∷ digits) in
    let tests : (ltb 4 (length name) && eqb (get_or name (length name - 4) 0) 46) ≡ true =
    and_from (ltb 4 (length name)) (eqb (get_or name (length name - 4) 0) 46) (lt-ltb 4 (length name) (omega arith))
    (ap (λ (k : ℕ). eqb (get_or name k 0) 46) before ∙ ap (λ (b : ℕ). eqb b 46) dot) in
    let found : number_of digits ≡ Some number = (numbers digits number).1 (is, sym value) in
    (λ i. cond (tests i) (option_map (λ n. record { stem = take (before i) name; number = n })
    (number_of (drop (behind i) name))) None)
    ∙ (λ i. option_map (λ n. record { stem = front i; number = n }) (number_of (tail i)))
    ∙ ap (option_map (λ n. record { stem = stem; number = n })) found

pub named : NumbersAreSpelled → (name : List ℕ) (cell : CellNameValue) → SpellsCellName name cell
    → cell_name_of name ≡ Some cell
named numbers name cell is =
    ap cell_name_of is.parts ∙ named-is numbers cell.stem is.digits cell.number is.some is.three is.number is.value

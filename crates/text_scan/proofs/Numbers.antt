-- A number is read as it is spelled.
use Rattle.std.proofs.Common.{◌≡◌, ℕ, ◌<◌, ◌≤◌, Bool, true, false, ltb, leb, eqb, ◌&&◌, ◌↔◌, ◌^◌, List, [], ◌∷◌, length}
use Rattle.std.proofs.Common.{Option, Some, None, refl, sym, ap, ◌∙◌, inl, inr, arith}
use Rattle.std.specs.Prelude.{option_map, ℤ, pos, neg_ℤ, IfSome}
use Rattle.std.specs.Str.{all_ascii_digits}
use Rattle.std.specs.Char.{is_ascii_digit}
use Rattle.std.proofs.lemmas.Bool.{ltb-true, lt-ltb, leb-true, le-leb, eqb-true, and_parts, true≢false}
use Rattle.std.proofs.lemmas.Bool.{false_from_ne_true}
use Rattle.common_lemmas.proofs.Choices.{chosen, map_some, none_unless, some_is}
use Rattle.common_lemmas.proofs.Digits.{AllDigits-from_test, test_from_AllDigits, value_short}
use Rattle.text_scan.specs.Number.{IsNumber, value_of, number_of, SpellsSigned, signed_of}

abbrev is_number : List ℕ → Bool
is_number text = ltb 0 (length text) && (leb (length text) 18 && all_ascii_digits text)

pub number_of_found : (text : List ℕ) (n : ℕ) → number_of text ≡ Some n → IsNumber text × (value_of text ≡ n)
unfolding number_of
number_of_found text n e =
    elim (chosen (is_number text) (Some (value_of text)) None (Some n) e) [
      | inl h ↦
          let p = and_parts (ltb 0 (length text)) (leb (length text) 18 && all_ascii_digits text) h.0 in
          let q = and_parts (leb (length text) 18) (all_ascii_digits text) p.1 in
          (((ltb-true _ _ p.0, AllDigits-from_test text q.1), leb-true _ _ q.0), some_is _ _ h.1)
      | inr h ↦ absurd (let none = h.1 in cc)
    ]

pub number_of_again : (text : List ℕ) → IsNumber text → number_of text ≡ Some (value_of text)
unfolding number_of
number_of_again text is =
    let some : ltb 0 (length text) ≡ true = lt-ltb _ _ is.0.0 in
    let short : leb (length text) 18 ≡ true = le-leb _ _ is.1 in
    let all : all_ascii_digits text ≡ true = test_from_AllDigits text is.0.1 in
    rw (some, short, all) refl

pub is_number_iff : (text : List ℕ) (all : Bool) → 0 < length text → length text ≤ 18 → all ≡ all_ascii_digits text
    → (all ≡ true) ↔ IsNumber text
is_number_iff text all some short same =
    (λ h. ((some, AllDigits-from_test text (sym same ∙ h)), short), λ is. same ∙ test_from_AllDigits text is.0.1)

pub number_below : (text : List ℕ) → IsNumber text → value_of text < 10 ^ 18
number_below text is = value_short text 18 (test_from_AllDigits text is.0.1) is.1

pub number_of_missing : (text : List ℕ) → (IsNumber text → ⊥) → number_of text ≡ None
number_of_missing text other = none_unless (number_of text) (λ n e. other (number_of_found text n e).0)

pub number_of_none : (text : List ℕ) → number_of text ≡ None → IsNumber text → ⊥
number_of_none text e is = let found = sym (number_of_again text is) ∙ e in cc

pub signed_of_found : (text : List ℕ) (z : ℤ) → signed_of text ≡ Some z → SpellsSigned text z
unfolding signed_of
signed_of_found [] z e = absurd cc
signed_of_found (x ∷ xs) z e =
    elim (chosen (eqb x 45) (option_map (λ n. neg_ℤ (pos n)) (number_of xs)) (option_map (λ n. pos n) (number_of (x ∷ xs))) (Some z) e) [
      | inl h ↦
          let m = map_some (λ n. neg_ℤ (pos n)) (number_of xs) z h.1 in
          let f = number_of_found xs m.0 m.1 in
          inr (xs, ap (λ (c : ℕ). c ∷ xs) (eqb-true x 45 h.0), f.0, sym m.2 ∙ ap (λ (n : ℕ). neg_ℤ (pos n)) (sym f.1))
      | inr h ↦
          let m = map_some (λ n. pos n) (number_of (x ∷ xs)) z h.1 in
          let f = number_of_found (x ∷ xs) m.0 m.1 in
          inl (f.0, sym m.2 ∙ ap (λ (n : ℕ). pos n) (sym f.1))
    ]

signed_of-minus : (digits : List ℕ) → IsNumber digits → signed_of (45 ∷ digits) ≡ Some (neg_ℤ (pos (value_of digits)))
unfolding signed_of
signed_of-minus digits is = rw (number_of_again digits is) refl

pub signed_of_again : (text : List ℕ) (z : ℤ) → SpellsSigned text z → signed_of text ≡ Some z
unfolding signed_of
signed_of_again text z (inr h) = ap signed_of h.1 ∙ signed_of-minus h.0 h.2 ∙ ap (λ (k : ℤ). Some k) (sym h.3)
signed_of_again [] z (inl h) = absurd (let some : 0 < 0 = h.0.0.0 in omega arith)
signed_of_again (x ∷ xs) z (inl h) =
    let digits = and_parts (is_ascii_digit x) (all_ascii_digits xs) (test_from_AllDigits (x ∷ xs) h.0.0.1) in
    let other : eqb x 45 ≡ false = false_from_ne_true _ (λ same. true≢false (sym digits.0 ∙ ap is_ascii_digit (eqb-true x 45 same))) in
    rw (other, number_of_again (x ∷ xs) h.0) (ap (λ (k : ℤ). Some k) (sym h.1))

-- an answer that is the function's, as what it says of the spellings
pub found_signed : (text : List ℕ) (answer : Option ℤ) → answer ≡ signed_of text → IfSome answer (SpellsSigned text)
found_signed text None e = tt
found_signed text (Some z) e = signed_of_found text z (sym e)

-- ---- what the law of numbers says, for the crates above

abbrev pub NumbersAreSpelled : Type 0
NumbersAreSpelled = (text : List ℕ) (n : ℕ) → (number_of text ≡ Some n) ↔ (IsNumber text × (value_of text ≡ n))

-- Decimal numbers in format controls.
use Rattle.std.proofs.Common.{◌≡◌, ℕ, ◌<◌, ◌≤◌, Bool, true, false, eqb, ltb, ◌&&◌, List, [], ◌∷◌, ◌++◌, Some, refl, sym, ap, ◌∙◌, inl, inr, arith}
use Rattle.std.specs.Char.{is_ascii_digit}
use Rattle.std.specs.Str.{all_ascii_digits}
use Rattle.std.specs.Str.Parse.{AllDigits, IsNumeral, digits_value}
use Rattle.std.proofs.lemmas.Bool.{eqb-true, ltb-true, lt-ltb, and_parts, and_from, cases_Bool, true≢false, false_from_ne_true}
use Rattle.common_lemmas.proofs.Digits.{AllDigits-from_test, test_from_AllDigits}
use Rattle.common_lemmas.proofs.Choices.{some_is}
use Rattle.iso8211_formats.specs.Reading.{counting_number_of, digits_and_rest, count_of}
use Rattle.iso8211_formats.specs.Grammar.{SpellsCount}
use Rattle.iso8211_formats.proofs.GivenValues.{guarded_some}
use Rattle.iso8211_formats.proofs.Cuts.{Lacks}

abbrev fits : List ℕ → Bool
fits digits = all_ascii_digits digits && (ltb 0 (digits_value 10 digits) && ltb (digits_value 10 digits) 100000)

pub counting_number_of_found : (digits : List ℕ) (n : ℕ) → counting_number_of digits ≡ Some n → IsNumeral 10 digits × (digits_value 10 digits ≡ n) × (1 ≤ n) × (n ≤ 99999)
unfolding counting_number_of
counting_number_of_found [] n e = absurd cc
counting_number_of_found (d ∷ ds) n e =
    let digits = d ∷ ds in
    let g = guarded_some (fits digits) (digits_value 10 digits) n e in
    let p = and_parts (all_ascii_digits digits) (ltb 0 (digits_value 10 digits) && ltb (digits_value 10 digits) 100000) g.0 in
    let q = and_parts (ltb 0 (digits_value 10 digits)) (ltb (digits_value 10 digits) 100000) p.1 in
    let low : 0 < digits_value 10 digits = ltb-true _ _ q.0 in
    let high : digits_value 10 digits < 100000 = ltb-true _ _ q.1 in
    ((omega arith, AllDigits-from_test digits p.0), g.1, omega (arith, g.1), omega (arith, g.1))

pub counting_number_of_again : (digits : List ℕ) (n : ℕ) → AllDigits 10 digits → digits_value 10 digits ≡ n → 1 ≤ n → n ≤ 99999 → counting_number_of digits ≡ Some n
unfolding counting_number_of
counting_number_of_again digits n all value low high =
    let test = test_from_AllDigits digits all in
    let is_low : ltb 0 (digits_value 10 digits) ≡ true = lt-ltb _ _ (omega arith) in
    let is_high : ltb (digits_value 10 digits) 100000 ≡ true = lt-ltb _ _ (omega arith) in
    rw (test, is_low, is_high) (ap (λ (k : ℕ). Some k) value)

pub digits_and_rest_found : (text : List ℕ) → (text ≡ (digits_and_rest text).0 ++ (digits_and_rest text).1) × (all_ascii_digits (digits_and_rest text).0 ≡ true)
unfolding digits_and_rest
digits_and_rest_found [] = (refl, refl)
digits_and_rest_found (x ∷ xs) =
    let rest = digits_and_rest_found xs in
    elim (cases_Bool (is_ascii_digit x)) [
      | inl h ↦ rw h (ap (λ (t : List ℕ). x ∷ t) rest.0, and_from _ _ h rest.1)
      | inr h ↦ rw h (refl, refl)
    ]

pub digits_and_rest_again : (digits : List ℕ) (x : ℕ) (xs : List ℕ) → all_ascii_digits digits ≡ true → is_ascii_digit x ≡ false → digits_and_rest (digits ++ x ∷ xs) ≡ (digits, x ∷ xs)
unfolding digits_and_rest
digits_and_rest_again [] x xs all other = rw other refl
digits_and_rest_again (d ∷ ds) x xs all other =
    let p = and_parts (is_ascii_digit d) (all_ascii_digits ds) all in
    rw (p.0, digits_and_rest_again ds x xs p.1 other) refl

pub count_of_found : (text : List ℕ) (n : ℕ) → count_of text ≡ Some n → SpellsCount n text
unfolding count_of
count_of_found [] n e = inl (refl, sym (some_is 1 n e))
count_of_found (d ∷ ds) n e = let f = counting_number_of_found (d ∷ ds) n e in inr (f.0, f.1, f.2)

pub count_of_again : (text : List ℕ) (n : ℕ) → SpellsCount n text → n ≤ 99999 → count_of text ≡ Some n
unfolding count_of
count_of_again [] n (inl h) high = ap (λ (k : ℕ). Some k) (sym h.1)
count_of_again [] n (inr h) high = let no : 0 < 0 = h.0.0 in absurd (omega arith)
count_of_again (d ∷ ds) n (inl h) high = absurd (let no = h.0 in cc)
count_of_again (d ∷ ds) n (inr h) high = counting_number_of_again (d ∷ ds) n h.0.1 h.1 h.2 high

pub SpellsCount-digits : (text : List ℕ) (n : ℕ) → SpellsCount n text → all_ascii_digits text ≡ true
SpellsCount-digits text n (inl h) = rw h.0 refl
SpellsCount-digits text n (inr h) = test_from_AllDigits text h.0.1

-- a byte that is no digit isn't among digits
pub Lacks-digits : (byte : ℕ) (digits : List ℕ) → is_ascii_digit byte ≡ false → all_ascii_digits digits ≡ true → Lacks byte digits
Lacks-digits byte [] other all = tt
Lacks-digits byte (d ∷ ds) other all =
    let p = and_parts (is_ascii_digit d) (all_ascii_digits ds) all in
    let differs : (eqb d byte ≡ true → ⊥) = λ h. true≢false (sym p.0 ∙ ap is_ascii_digit (eqb-true d byte h) ∙ other) in
    (false_from_ne_true (eqb d byte) differs, Lacks-digits byte ds other p.1)

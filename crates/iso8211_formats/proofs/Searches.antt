-- A text cut where a search in it stopped, and a number after some of its digits.
use Rattle.std.proofs.Common.{◌≡◌, ℕ, zero, suc, ◌+◌, ◌-◌, ◌*◌, ◌<◌, ◌≤◌, Bool, true, false, not, eqb, ltb, List, [], ◌∷◌, length, get_or, take, drop, position, Some, None, refl, sym, inl, inr, arith, add-one}
use Rattle.std.specs.List.{position_or_len}
use Rattle.std.specs.Char.{is_ascii_digit}
use Rattle.std.specs.Str.{all_ascii_digits}
use Rattle.std.specs.Str.Parse.{digits_value}
use Rattle.std.proofs.lemmas.Bool.{ltb-false, not-true, not-false}
use Rattle.std.proofs.lemmas.List.Quantifiers.{position-Some}
use Rattle.std.proofs.lemmas.List.Sums.{fails_before_first}
use Rattle.std.proofs.lemmas.Str.Parse.{digits_value-take-le}
use Rattle.std.proofs.lemmas.Int.Digits.{digits_value_more}
use Rattle.common_lemmas.proofs.Choices.{chosen, none_unless}
use Rattle.common_lemmas.proofs.Digits.{all_ascii_digits-other, AllDigits-from_test, digit_value-digit}
use Rattle.iso8211_formats.specs.Reading.{cut_at, digits_and_rest, counting_number_of}
use Rattle.iso8211_formats.proofs.Numbers.{counting_number_of_found, counting_number_of_again}

cut_at-index : (byte : ℕ) (text : List ℕ) (at : ℕ) → at < length text → eqb (get_or text at 0) byte ≡ true → ((k : ℕ) → k < at → eqb (get_or text k 0) byte ≡ false) → cut_at byte text ≡ Some (take at text, drop (suc at) text)
unfolding cut_at
cut_at-index byte [] at lt here before = absurd (omega arith)
cut_at-index byte (x ∷ xs) zero lt here before = rw here refl
cut_at-index byte (x ∷ xs) (suc at) lt here before =
    let first : eqb x byte ≡ false = before 0 (omega arith) in
    rw (first, cut_at-index byte xs at (omega arith) here (λ k h. before (suc k) (omega arith))) refl

cut_at-nowhere : (byte : ℕ) (text : List ℕ) → ((k : ℕ) → k < length text → eqb (get_or text k 0) byte ≡ false) → cut_at byte text ≡ None
unfolding cut_at
cut_at-nowhere byte [] nowhere = refl
cut_at-nowhere byte (x ∷ xs) nowhere =
    let first : eqb x byte ≡ false = nowhere 0 (omega arith) in
    rw (first, cut_at-nowhere byte xs (λ k h. nowhere (suc k) (omega arith))) refl

-- no element passes where the search found none
fails_everywhere : (p : ℕ → Bool) (xs : List ℕ) → position p xs ≡ None → (k : ℕ) → k < length xs → p (get_or xs k 0) ≡ false
fails_everywhere p xs e k lt =
    elim (chosen (ltb (position_or_len p xs) (length xs)) (Some (position_or_len p xs)) None None e) [
      | inl h ↦ absurd (let found = h.1 in cc)
      | inr h ↦ let past : length xs ≤ position_or_len p xs = ltb-false _ _ h.0 in fails_before_first p xs k 0 (omega arith)
    ]

pub cut_at-found : (byte : ℕ) (text : List ℕ) (at : ℕ) → position (λ b. eqb b byte) text ≡ Some at → cut_at byte text ≡ Some (take at text, drop (at + 1) text)
cut_at-found byte text at e =
    let found = position-Some (λ b. eqb b byte) text at 0 e in
    rw add-one (cut_at-index byte text at found.0 found.1 found.2)

pub cut_at-missed : (byte : ℕ) (text : List ℕ) → position (λ b. eqb b byte) text ≡ None → cut_at byte text ≡ None
cut_at-missed byte text e = cut_at-nowhere byte text (fails_everywhere (λ b. eqb b byte) text e)

digits_and_rest-index : (text : List ℕ) (at : ℕ) → at ≤ length text → ((k : ℕ) → k < at → is_ascii_digit (get_or text k 0) ≡ true) → (at < length text → is_ascii_digit (get_or text at 0) ≡ false) → digits_and_rest text ≡ (take at text, drop at text)
unfolding digits_and_rest
digits_and_rest-index [] zero le before here = refl
digits_and_rest-index [] (suc at) le before here = absurd (omega arith)
digits_and_rest-index (x ∷ xs) zero le before here = let first : is_ascii_digit x ≡ false = here (omega arith) in rw first refl
digits_and_rest-index (x ∷ xs) (suc at) le before here =
    let first : is_ascii_digit x ≡ true = before 0 (omega arith) in
    rw (first, digits_and_rest-index xs at (omega arith) (λ k h. before (suc k) (omega arith)) (λ h. here (omega arith))) refl

pub digits_and_rest-found : (text : List ℕ) (at : ℕ) → position (λ b. not (is_ascii_digit b)) text ≡ Some at → digits_and_rest text ≡ (take at text, drop at text)
digits_and_rest-found text at e =
    let found = position-Some (λ b. not (is_ascii_digit b)) text at 0 e in
    digits_and_rest-index text at (omega (arith, found.0)) (λ k h. not-false _ (found.2 k h)) (λ _. not-true _ found.1)

pub digits_and_rest-missed : (text : List ℕ) → position (λ b. not (is_ascii_digit b)) text ≡ None → digits_and_rest text ≡ (take (length text) text, drop (length text) text)
digits_and_rest-missed text e =
    digits_and_rest-index text (length text) (omega arith) (λ k h. not-false _ (fails_everywhere (λ b. not (is_ascii_digit b)) text e k h)) (λ h. absurd (omega arith))

-- ---- digits of a number

pub counting_number_of-other : (text : List ℕ) (i : ℕ) → i < length text → is_ascii_digit (get_or text i 0) ≡ false → counting_number_of text ≡ None
unfolding counting_number_of
counting_number_of-other text i lt other =
    rw (all_ascii_digits-other text i lt other) refl

pub counting_number_of-over : (text : List ℕ) (i : ℕ) → 99999 < digits_value 10 (take i text) → counting_number_of text ≡ None
counting_number_of-over text i over =
    none_unless (counting_number_of text) (λ n e. let f = counting_number_of_found text n e in omega (arith, over, digits_value-take-le 10 text i (omega arith), f.1, f.3))

pub counting_number_of-zero : (text : List ℕ) → digits_value 10 text ≡ 0 → counting_number_of text ≡ None
counting_number_of-zero text zero_value =
    none_unless (counting_number_of text) (λ n e. let f = counting_number_of_found text n e in omega (arith, zero_value, f.1, f.2))

pub counting_number_of-is : (text : List ℕ) (n : ℕ) → all_ascii_digits text ≡ true → n ≡ digits_value 10 text → 1 ≤ n → n ≤ 99999 → counting_number_of text ≡ Some n
counting_number_of-is text n all value low high = counting_number_of_again text n (AllDigits-from_test text all) (sym value) low high

-- the number after one more digit
pub digits_value-more : (text : List ℕ) (i value digit : ℕ) → i < length text → value ≡ digits_value 10 (take i text) → is_ascii_digit (get_or text i 0) ≡ true → digit ≡ get_or text i 0 - 48 → value * 10 + digit ≡ digits_value 10 (take (i + 1) text)
digits_value-more text i value digit lt before is_digit same =
    omega (arith, digits_value_more 10 text i lt, before, same, (digit_value-digit (get_or text i 0) is_digit).0)

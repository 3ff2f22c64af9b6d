-- Texts of decimal digits: what their test tells, read whole or digit by digit.
use Rattle.std.proofs.Common.{◌≡◌, ℕ, zero, suc, ◌+◌, ◌-◌, ◌^◌, ◌<◌, ◌≤◌, true, false, ltb, List, [], ◌∷◌, length, get_or, take, refl, sym, ◌∙◌, arith, add-one}
use Rattle.std.specs.Bool.{Decides}
use Rattle.std.specs.Char.{is_ascii_digit, digit_value}
use Rattle.std.specs.Str.{all_ascii_digits}
use Rattle.std.specs.Str.Parse.{AllDigits, digits_value}
use Rattle.std.proofs.lemmas.Bool.{leb-true, le-ltb, lt-ltb, and_parts, and_from, false_from_ne_true, true≢false}
use Rattle.std.proofs.lemmas.Str.Parse.{IsNumeralModel, numerals_by_value, tells_all_ascii_digits, digits_value_short}

-- ---- the test

abbrev pub digits_test : List ℕ → Type 0
digits_test ds = all_ascii_digits ds ≡ true

pub numerals : IsNumeralModel digits_test (digits_value 10)
numerals = numerals_by_value digits_test tells_all_ascii_digits

pub AllDigits-from_test : (ds : List ℕ) → all_ascii_digits ds ≡ true → AllDigits 10 ds
AllDigits-from_test ds h = numerals.to ds h

pub test_from_AllDigits : (ds : List ℕ) → AllDigits 10 ds → all_ascii_digits ds ≡ true
test_from_AllDigits ds h = numerals.from ds h

pub Decides-digits : (text : List ℕ) → Decides (all_ascii_digits text) (AllDigits 10 text)
Decides-digits text = (numerals.to text, numerals.from text)

pub value_short : (ds : List ℕ) (k : ℕ) → all_ascii_digits ds ≡ true → length ds ≤ k → digits_value 10 ds < 10 ^ k
value_short ds k all short = digits_value_short numerals ds k all short

-- ---- one digit

pub digit_value-digit : (x : ℕ) → is_ascii_digit x ≡ true → (digit_value x ≡ x - 48) × (48 ≤ x) × (x ≤ 57)
digit_value-digit x digit =
    let parts = and_parts _ _ digit in
    let low : 48 ≤ x = leb-true 48 x parts.0 in
    let high : x ≤ 57 = leb-true x 57 parts.1 in
    let not_under : ltb x 48 ≡ false = le-ltb x 48 low in
    let under : ltb x 58 ≡ true = lt-ltb x 58 (omega arith) in
    (rw (not_under, under) refl, low, high)

pub all_ascii_digits-index : (text : List ℕ) (i : ℕ) → i < length text → all_ascii_digits text ≡ true
    → is_ascii_digit (get_or text i 0) ≡ true
all_ascii_digits-index [] i lt all = absurd (omega arith)
all_ascii_digits-index (x ∷ xs) zero lt all = (and_parts _ _ all).0
all_ascii_digits-index (x ∷ xs) (suc i) lt all = all_ascii_digits-index xs i (omega arith) (and_parts _ _ all).1

pub all_ascii_digits-other : (text : List ℕ) (i : ℕ) → i < length text → is_ascii_digit (get_or text i 0) ≡ false
    → all_ascii_digits text ≡ false
all_ascii_digits-other text i lt other =
    false_from_ne_true _ (λ all. true≢false (sym (all_ascii_digits-index text i lt all) ∙ other))

-- ---- a digit more

all_ascii_digits-suc : (text : List ℕ) (i : ℕ) → i < length text → all_ascii_digits (take i text) ≡ true
    → is_ascii_digit (get_or text i 0) ≡ true → all_ascii_digits (take (suc i) text) ≡ true
all_ascii_digits-suc [] i lt all digit = absurd (omega arith)
all_ascii_digits-suc (x ∷ xs) zero lt all digit = and_from _ _ digit refl
all_ascii_digits-suc (x ∷ xs) (suc i) lt all digit =
    let parts = and_parts (is_ascii_digit x) (all_ascii_digits (take i xs)) all in
    and_from _ _ parts.0 (all_ascii_digits-suc xs i (omega arith) parts.1 digit)

pub all_ascii_digits-more : (text : List ℕ) (i : ℕ) → i < length text → all_ascii_digits (take i text) ≡ true
    → is_ascii_digit (get_or text i 0) ≡ true → all_ascii_digits (take (i + 1) text) ≡ true
all_ascii_digits-more text i lt all digit = rw add-one (all_ascii_digits-suc text i lt all digit)

-- Texts of digits, and what their bytes weigh.
use Rattle.std.proofs.Common.{◌≡◌, ◌==◌, ℕ, ◌+◌, ◌*◌, ◌^◌, ◌<◌, ◌≤◌, true, false, List, [], ◌∷◌, length, get_or, drop, drop-cons, add-one, arith, refl, inl, inr}
use Rattle.std.specs.Char.{is_ascii_digit, digit_value}
use Rattle.std.specs.List.{list_all}
use Rattle.std.specs.Str.Parse.{digits_value, digits_value_after}
use Rattle.std.proofs.Math.Nat.{pow-le-pow_right, pow-succ'}
use Rattle.std.proofs.Math.ListN.{drop_of_length-le}
use Rattle.std.proofs.lemmas.Bool.{and_parts, cases_Bool, agree_below, agree_below_at, eqb-true}
use Rattle.common_lemmas.proofs.Digits.{digit_value-digit, value_short}
use Rattle.iso8211_leader.specs.Digits.{AreDigits, weight, weight_sum}
use Rattle.iso8211_leader.specs.declared.digits.TheConstants.{WEIGHTS}

-- the table has what each byte weighs
pub weights-are : (byte : ℕ) → byte < 256 → get_or WEIGHTS byte 0 ≡ weight byte
weights-are byte small =
    let table : agree_below (λ b. get_or WEIGHTS b 0 == weight b) (λ b. true) 256 ≡ true = refl in
    eqb-true _ _ (agree_below_at (λ b. get_or WEIGHTS b 0 == weight b) (λ b. true) 256 byte table small)

-- a digit weighs its value
weight-digit : (byte : ℕ) → is_ascii_digit byte ≡ true → weight byte ≡ digit_value byte
weight-digit byte digit = rw (digit, (digit_value-digit byte digit).0)

-- any other byte weighs more than nine digits
weight-other : (byte : ℕ) → is_ascii_digit byte ≡ false → weight byte ≡ 1000000000
weight-other byte other = rw other

-- more bytes weigh no less
grows : (number : ℕ) (bytes : List ℕ) → number ≤ weight_sum number bytes
unfolding weight_sum
grows number [] = omega arith
grows number (byte ∷ bytes) = let more = grows (10 * number + weight byte) bytes in omega arith

-- digits weigh the number that they are
weight_sum-digits : (number : ℕ) (bytes : List ℕ) → list_all is_ascii_digit bytes ≡ true → weight_sum number bytes ≡ digits_value_after 10 number bytes
unfolding weight_sum
weight_sum-digits number [] digits = refl
weight_sum-digits number (byte ∷ bytes) digits =
    let parts = and_parts (is_ascii_digit byte) (list_all is_ascii_digit bytes) digits in
    let value : 10 * number + weight byte ≡ number * 10 + digit_value byte = omega (arith, weight-digit byte parts.0) in
    rw value (weight_sum-digits (number * 10 + digit_value byte) bytes parts.1)

-- where a byte is none, they weigh more than nine digits
weight_sum-others : (number : ℕ) (bytes : List ℕ) → list_all is_ascii_digit bytes ≡ false → 1000000000 ≤ weight_sum number bytes
unfolding weight_sum
weight_sum-others number [] others = absurd (cc)
weight_sum-others number (byte ∷ bytes) others = elim (cases_Bool (is_ascii_digit byte)) [
  | inl digit ↦ weight_sum-others (10 * number + weight byte) bytes (rw digit at others)
  | inr other ↦ omega (arith, grows (10 * number + weight byte) bytes, weight-other byte other)
]

-- a text that weighs less is digits, and weighs their number
pub weight_sum-below : (text : List ℕ) → weight_sum 0 text < 1000000000 → AreDigits text × (weight_sum 0 text ≡ digits_value 10 text)
unfolding AreDigits
weight_sum-below text small = elim (cases_Bool (list_all is_ascii_digit text)) [
  | inl digits ↦ (digits, weight_sum-digits 0 text digits)
  | inr others ↦ absurd (omega (arith, weight_sum-others 0 text others))
]

-- at most nine digits weigh less
pub digits-below : (text : List ℕ) → length text ≤ 9 → AreDigits text → (weight_sum 0 text ≡ digits_value 10 text) × (weight_sum 0 text < 10 ^ length text)
unfolding AreDigits
digits-below text short digits =
    let value = weight_sum-digits 0 text digits in
    (value, rw value (value_short text (length text) digits (omega arith)))

pub digits-below-most : (text : List ℕ) → length text ≤ 9 → AreDigits text → weight_sum 0 text < 1000000000
digits-below-most text short digits =
    let below = (digits-below text short digits).1 in
    let bound : 10 ^ length text ≤ 10 ^ 9 = pow-le-pow_right {n = 10} (omega arith) {i = length text} {j = 9} short in
    omega arith

-- the bytes that are left of a list, and none
pub weight_sum-all : (number i : ℕ) (bytes : List ℕ) → length bytes ≤ i → weight_sum number (drop i bytes) ≡ number
unfolding weight_sum
weight_sum-all number i bytes past = rw (drop_of_length-le bytes past)

-- five bytes
pub weight_sum-five : (text : List ℕ) → length text ≡ 5 → weight_sum 0 text
    ≡ 10 * (10 * (10 * (10 * (10 * 0 + weight (get_or text 0 0)) + weight (get_or text 1 0)) + weight (get_or text 2 0))
    + weight (get_or text 3 0)) + weight (get_or text 4 0)
unfolding weight_sum
weight_sum-five [] five = absurd (omega arith)
weight_sum-five (a ∷ []) five = absurd (omega arith)
weight_sum-five (a ∷ b ∷ []) five = absurd (omega arith)
weight_sum-five (a ∷ b ∷ c ∷ []) five = absurd (omega arith)
weight_sum-five (a ∷ b ∷ c ∷ d ∷ []) five = absurd (omega arith)
weight_sum-five (a ∷ b ∷ c ∷ d ∷ e ∷ []) five = refl
weight_sum-five (a ∷ b ∷ c ∷ d ∷ e ∷ f ∷ more) five = absurd (omega arith)

-- a byte of a list more
pub weight_sum-step : (number i : ℕ) (bytes : List ℕ) → i < length bytes
    → weight_sum number (drop i bytes) ≡ weight_sum (10 * number + weight (get_or bytes i 0)) (drop (i + 1) bytes)
unfolding weight_sum
weight_sum-step number i bytes inside = rw (add-one, drop-cons bytes i 0)

-- what a byte weighs at most
pub weight-le : (byte : ℕ) → weight byte ≤ 1000000000
weight-le byte = elim (cases_Bool (is_ascii_digit byte)) [
  | inl digit ↦ omega (arith, weight-digit byte digit, digit_value-digit byte digit)
  | inr other ↦ omega (arith, weight-other byte other)
]

-- the sum before the last of nine bytes, and after a further byte
pub room : (sum i size : ℕ) → sum + 1000000000 ≤ 2000000000 * 10 ^ i → i < size → size ≤ 9 → sum ≤ 200000000000000000
room sum i size bounded more most = let bound : 10 ^ i ≤ 10 ^ 8 = pow-le-pow_right {n = 10} (omega arith) {i = i} {j = 8} (omega arith) in omega arith

pub bound-more : (sum i weight : ℕ) → sum + 1000000000 ≤ 2000000000 * 10 ^ i → weight ≤ 1000000000 → 10 * sum + weight + 1000000000 ≤ 2000000000 * 10 ^ (i + 1)
bound-more sum i weight bounded light = rw (add-one, pow-succ') (omega arith)

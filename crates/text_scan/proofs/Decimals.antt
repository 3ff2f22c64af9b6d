-- The decimal text of a number is the one without leading zeros.
use Rattle.std.proofs.Common.{◌≡◌, ℕ, zero, suc, ◌+◌, ◌*◌, ◌%◌, ◌^◌, ◌<◌, ◌≤◌, List, [], ◌∷◌, ◌++◌, length, get_or}
use Rattle.std.proofs.Common.{refl, sym, ap, ◌∙◌, inl, inr, arith, length-append, lit<}
use Rattle.std.specs.Prelude.{ℤ, pos, negsuc, unsigned_abs}
use Rattle.std.specs.Fmt.{decimal}
use Rattle.std.specs.Str.Parse.{AllDigits, IsNumeral, digits_value, digits_value_after}
use Rattle.std.specs.Char.{digit_value}
use Rattle.std.proofs.lemmas.Bool.{cases_order}
use Rattle.std.proofs.lemmas.Fmt.{decimal_is_IsNumeral_wide, decimal_by_steps_wide, decimal_digit}
use Rattle.std.proofs.lemmas.Int.Digits.{digits_value-lt}
use Rattle.std.proofs.Math.Nat.{mul-le-mul_right}
use native.Mathlib.Nat.{le_trans, pow-suc, pow-le-pow_right}
use Rattle.text_scan.proofs.Scans.{digit_of}
use Rattle.text_scan.specs.Written.{decimal_of, sign_of, IsDecimal}

-- digits of a number other than 0 begin with another digit
record Begins (n : ℕ) (digits : List ℕ) : Type 0 where
  some : 0 < length digits
  first : 0 < n → 48 < get_or digits 0 0

first-append : (xs ys : List ℕ) → 0 < length xs → get_or (xs ++ ys) 0 0 ≡ get_or xs 0 0
first-append [] ys some = absurd (omega arith)
first-append (x ∷ xs) ys some = refl

begins : (n : ℕ) → n < 10 ^ 64 → Begins n (decimal n)
begins n small =
    decimal_by_steps_wide Begins (λ k lt. record { some = omega arith; first = λ h. omega arith }) (λ k ds ge b. record {
      some = omega (arith, length-append ds ((48 + k % 10) ∷ []));
      first = λ h. rw (first-append ds ((48 + k % 10) ∷ []) b.some) (b.first (omega arith));
    }) n small

shortest : (n : ℕ) → n < 10 ^ 64 → get_or (decimal n) 0 0 ≡ 48 → length (decimal n) ≡ 1
shortest zero small zero_first = ap length (decimal_digit 0 (omega arith))
shortest (suc n) small zero_first = absurd (omega (arith, zero_first, (begins (suc n) small).first (omega arith)))

pub decimal_of-is : (z : ℤ) → unsigned_abs z < 10 ^ 64 → IsDecimal (decimal_of z) z
decimal_of-is (pos n) small =
    let numeral = decimal_is_IsNumeral_wide n small in
    record { digits = decimal n; whole = refl; numeral = numeral.0; value = numeral.1; shortest = shortest n small }
decimal_of-is (negsuc n) small =
    let numeral = decimal_is_IsNumeral_wide (suc n) small in
    record { digits = decimal (suc n); whole = refl; numeral = numeral.0; value = numeral.1; shortest = shortest (suc n) small }

-- ---- no other text

times_ten : (n small large : ℕ) → large ≡ small * 10 → n * large ≡ n * 10 * small
times_ten n small large same = ap (λ (k : ℕ). n * k) same ∙ grind arith

-- the number is at least what its first digits make with zeros behind them
value_after-ge : (n : ℕ) (ds : List ℕ) → n * 10 ^ length ds ≤ digits_value_after 10 n ds
value_after-ge n [] = omega arith
value_after-ge n (d ∷ ds) =
    let power = 10 ^ length ds in
    let more : n * 10 ≤ n * 10 + digit_value d = omega arith in
    let shifted : n * 10 ^ length (d ∷ ds) ≡ n * 10 * power = times_ten n power (10 ^ length (d ∷ ds)) (pow-suc 10 (length ds)) in
    let least : n * 10 * power ≤ (n * 10 + digit_value d) * power = mul-le-mul_right power more in
    let rest : (n * 10 + digit_value d) * power ≤ digits_value_after 10 (n * 10 + digit_value d) ds = value_after-ge (n * 10 + digit_value d) ds in
    rw shifted (le_trans least rest)

-- digits of one length that go on from numbers to one number, go on from one number and are the same
same_digits : (m n : ℕ) (xs ys : List ℕ) → AllDigits 10 xs → AllDigits 10 ys → length xs ≡ length ys
    → digits_value_after 10 m xs ≡ digits_value_after 10 n ys → (m ≡ n) × (xs ≡ ys)
same_digits m n [] [] all_x all_y long same = (same, refl)
same_digits m n [] (y ∷ ys) all_x all_y long same = absurd (omega arith)
same_digits m n (x ∷ xs) [] all_x all_y long same = absurd (omega arith)
same_digits m n (x ∷ xs) (y ∷ ys) all_x all_y long same =
    let rest = same_digits (m * 10 + digit_value x) (n * 10 + digit_value y) xs ys all_x.1 all_y.1 (omega arith) same in
    let digit_x = digit_of x all_x.0 in
    let digit_y = digit_of y all_y.0 in
    let first : x ≡ y = omega (arith, rest.0, all_x.0, all_y.0, digit_x, digit_y) in
    (omega (arith, rest.0, all_x.0, all_y.0), ap (λ (c : ℕ). c ∷ xs) first ∙ ap (λ (t : List ℕ). y ∷ t) rest.1)

-- a text without a leading zero isn't longer than another of the same number
not_longer : (x : ℕ) (xs : List ℕ) (y : ℕ) (ys : List ℕ) → AllDigits 10 (x ∷ xs) → AllDigits 10 (y ∷ ys)
    → digits_value 10 (x ∷ xs) ≡ digits_value 10 (y ∷ ys) → (y ≡ 48 → length (y ∷ ys) ≡ 1) → length xs < length ys → ⊥
not_longer x xs y ys all_x all_y same short longer =
    let digit_y = digit_of y all_y.0 in
    let no_zero : y ≡ 48 → ⊥ = λ h. omega (arith, short h) in
    let some : 1 ≤ digit_value y = omega (arith, no_zero, digit_y) in
    let least = value_after-ge (digit_value y) ys in
    let least_first : 1 * 10 ^ length ys ≤ digit_value y * 10 ^ length ys = mul-le-mul_right (10 ^ length ys) some in
    let first_is : digits_value 10 (y ∷ ys) ≡ digits_value_after 10 (digit_value y) ys = ap (λ (n : ℕ). digits_value_after 10 n ys) (omega arith) in
    let most = digits_value-lt 10 (x ∷ xs) all_x in
    let power : 10 ^ length (x ∷ xs) ≤ 10 ^ length ys = pow-le-pow_right {n = 10} (lit< tt) longer in
    omega (arith, least, least_first, first_is, most, power, same)

same_numerals : (xs ys : List ℕ) → IsNumeral 10 xs → IsNumeral 10 ys → digits_value 10 xs ≡ digits_value 10 ys
    → (get_or xs 0 0 ≡ 48 → length xs ≡ 1) → (get_or ys 0 0 ≡ 48 → length ys ≡ 1) → xs ≡ ys
same_numerals [] ys x y same short_x short_y = absurd (let none : 0 < 0 = x.0 in omega arith)
same_numerals (x ∷ xs) [] num_x num_y same short_x short_y = absurd (let none : 0 < 0 = num_y.0 in omega arith)
same_numerals (x ∷ xs) (y ∷ ys) num_x num_y same short_x short_y =
    elim (cases_order (length xs) (length ys)) [
      | inl long ↦ (same_digits 0 0 (x ∷ xs) (y ∷ ys) num_x.1 num_y.1 (omega (arith, long)) same).1
      | inr order ↦ elim order [
        | inl lt ↦ absurd (not_longer x xs y ys num_x.1 num_y.1 same short_y lt)
        | inr gt ↦ absurd (not_longer y ys x xs num_y.1 num_x.1 (sym same) short_x gt)
      ]
    ]

pub one_decimal : (z : ℤ) (a b : List ℕ) → IsDecimal a z → IsDecimal b z → a ≡ b
one_decimal z a b p q =
    p.whole ∙ ap (λ (t : List ℕ). sign_of z ++ t) (same_numerals p.digits q.digits p.numeral q.numeral (p.value ∙ sym q.value) p.shortest q.shortest) ∙ sym q.whole

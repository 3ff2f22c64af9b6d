-- Texts scanned digit by digit.
use Rattle.std.proofs.Common.{◌≡◌, ℕ, zero, suc, ◌+◌, ◌-◌, ◌*◌, ◌^◌, ◌<◌, ◌≤◌, Bool, true, false, cond, lit<}
use Rattle.std.proofs.Common.{List, [], ◌∷◌, ◌++◌, length, get_or, take, drop, refl, sym, ap, ◌∙◌}
use Rattle.std.proofs.Common.{arith, add-one}
use Rattle.std.specs.List.{prefix_len, take_while}
use Rattle.std.specs.Char.{is_ascii_digit, digit_value}
use Rattle.std.specs.Str.{all_ascii_digits}
use Rattle.std.specs.Str.Parse.{digits_value_after}
use Rattle.std.proofs.lemmas.Bool.{le-leb, and_parts, and_from}
use Rattle.std.proofs.lemmas.List.{take_all, drop_all, take-append-le, drop-append-le}
use Rattle.std.proofs.lemmas.List.Sums.{take_while-cons}
use Rattle.std.proofs.lemmas.Str.Parse.{digit_from_value}
use native.Mathlib.Nat.{pow-suc, pow-le-pow_right}
use Rattle.common_lemmas.proofs.Digits.{all_ascii_digits-index, digit_value-digit}
use Rattle.text_scan.specs.Depth.{behind_digits}

-- ---- digits

pub digit_at : (text : List ℕ) (i : ℕ) → i < length text → all_ascii_digits text ≡ true
    → (digit_value (get_or text i 0) ≡ get_or text i 0 - 48) × (48 ≤ get_or text i 0) × (get_or text i 0 ≤ 57)
digit_at text i lt all = digit_value-digit (get_or text i 0) (all_ascii_digits-index text i lt all)

-- ---- the number so far

value_after-suc : (n : ℕ) (ds : List ℕ) (i : ℕ) → i < length ds
    → digits_value_after 10 n (take (suc i) ds) ≡ digits_value_after 10 n (take i ds) * 10 + digit_value (get_or ds i 0)
value_after-suc n [] i lt = absurd (omega arith)
value_after-suc n (x ∷ xs) zero lt = refl
value_after-suc n (x ∷ xs) (suc i) lt = value_after-suc (n * 10 + digit_value x) xs i (omega arith)

pub value_after-more : (start value : ℕ) (ds : List ℕ) (i : ℕ) → i < length ds → all_ascii_digits ds ≡ true
    → value ≡ digits_value_after 10 start (take i ds)
    → value * 10 + (get_or ds i 0 - 48) ≡ digits_value_after 10 start (take (i + 1) ds)
value_after-more start value ds i lt all before =
    rw add-one (sym (value_after-suc start ds i lt ∙ ap (λ (n : ℕ). n * 10 + digit_value (get_or ds i 0)) (sym before) ∙ ap (λ (d : ℕ). value * 10 + d) (digit_at ds i lt all).0))

pub below-more : (value digit k : ℕ) → value < 10 ^ k → digit ≤ 9 → value * 10 + digit < 10 ^ (k + 1)
below-more value digit k lt small = rw (add-one k) (omega (arith, pow-suc 10 k))

pub below_limit : (value k : ℕ) → value < 10 ^ k → k ≤ 26 → value < 10 ^ 26
below_limit value k lt le = omega (arith, pow-le-pow_right {n = 10} (lit< tt) le)

-- the digits of a text behind those of another
pub value_after-append : (n : ℕ) (xs ys : List ℕ)
    → digits_value_after 10 n (xs ++ ys) ≡ digits_value_after 10 (digits_value_after 10 n xs) ys
value_after-append n [] ys = refl
value_after-append n (x ∷ xs) ys = value_after-append (n * 10 + digit_value x) xs ys

-- ---- the digits in front

digits_if : (b : Bool) (x : ℕ) (xs : List ℕ) → is_ascii_digit x ≡ b → all_ascii_digits xs ≡ true
    → all_ascii_digits (cond b (x ∷ xs) []) ≡ true
digits_if true x xs digit rest = and_from _ _ digit rest
digits_if false x xs other rest = refl

pub front_is_digits : (text : List ℕ) → all_ascii_digits (take_while is_ascii_digit text) ≡ true
front_is_digits [] = refl
front_is_digits (x ∷ xs) =
    ap all_ascii_digits (take_while-cons is_ascii_digit x xs)
    ∙ digits_if (is_ascii_digit x) x (take_while is_ascii_digit xs) refl (front_is_digits xs)

-- digits and what begins with no digit
count_before : (digits rest : List ℕ) → all_ascii_digits digits ≡ true → prefix_len is_ascii_digit rest ≡ 0
    → prefix_len is_ascii_digit (digits ++ rest) ≡ length digits
count_before [] rest all none = none
count_before (d ∷ ds) rest all none =
    let p = and_parts (is_ascii_digit d) (all_ascii_digits ds) all in
    let more = count_before ds rest p.1 none in
    ap (λ b. cond b (1 + prefix_len is_ascii_digit (ds ++ rest)) 0) p.0 ∙ omega (arith, more)

pub cut_before : (digits rest : List ℕ) → all_ascii_digits digits ≡ true → prefix_len is_ascii_digit rest ≡ 0
    → (take_while is_ascii_digit (digits ++ rest) ≡ digits) × (behind_digits (digits ++ rest) ≡ rest)
cut_before digits rest all none =
    let count = count_before digits rest all none in (
      ap (λ n. take n (digits ++ rest)) count
          ∙ take-append-le (length digits) digits rest (omega arith)
          ∙ take_all (length digits) digits (omega arith),
      ap (λ n. drop n (digits ++ rest)) count
          ∙ drop-append-le (length digits) digits rest (omega arith)
          ∙ ap (λ (front : List ℕ). front ++ rest) (drop_all (length digits) digits (omega arith)),
    )

-- the byte of a digit's value
pub digit_of : (x : ℕ) → digit_value x < 10 → (digit_value x ≡ x - 48) × (48 ≤ x) × (x ≤ 57)
digit_of x small =
    let range = digit_from_value x small in
    digit_value-digit x (and_from _ _ (le-leb 48 x range.0) (le-leb x 57 range.1))

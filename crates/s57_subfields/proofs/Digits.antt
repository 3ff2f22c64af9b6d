-- Digits read one after the other, as long as the number stays within a bound.
use Rattle.std.proofs.Common.{◌≡◌, ◌∙◌, ℕ, ◌+◌, ◌*◌, ◌<◌, ◌≤◌, Bool, true, false, cond, ltb, leb, ◌&&◌, List, [], ◌∷◌, length, get_or, drop, drop-cons, add-one, Option, Some, None, refl, sym, ap, inl, inr, arith}
use Rattle.std.proofs.Math.ListN.{drop_of_length-le}
use Rattle.std.specs.Char.{is_ascii_digit, digit_value}
use Rattle.std.specs.Str.{all_ascii_digits}
use Rattle.std.specs.Str.Parse.{digits_value_after}
use Rattle.std.proofs.lemmas.Bool.{cases_Bool, le-leb, lt-leb, ltb-true, ltb-false, lt-ltb, le-ltb}
use Rattle.s57_subfields.specs.Number.{digits_up_to}

pub scanned : ℕ → ℕ → List ℕ → Option ℕ
scanned most n [] = Some n
scanned most n (d ∷ ds) = cond (is_ascii_digit d) (cond (ltb most (n * 10 + digit_value d)) None (scanned most (n * 10 + digit_value d) ds)) None

value_after-ge : (n : ℕ) (ds : List ℕ) → n ≤ digits_value_after 10 n ds
value_after-ge n [] = omega arith
value_after-ge n (d ∷ ds) = omega (arith, value_after-ge (n * 10 + digit_value d) ds)

and-false : (b : Bool) → (b && false) ≡ false
and-false true = refl
and-false false = refl

-- the number that is read, where all are digits and it is within the bound
pub scanned-is : (most n : ℕ) (ds : List ℕ) → n ≤ most → scanned most n ds ≡ cond (all_ascii_digits ds && leb (digits_value_after 10 n ds) most) (Some (digits_value_after 10 n ds)) None
unfolding scanned
scanned-is most n [] le = rw (le-leb n most le) refl
scanned-is most n (d ∷ ds) le =
    let more = n * 10 + digit_value d in
    elim (cases_Bool (is_ascii_digit d)) [
      | inr other ↦ rw other refl
      | inl digit ↦ elim (cases_Bool (ltb most more)) [
        | inl over ↦
            let past : leb (digits_value_after 10 more ds) most ≡ false = lt-leb (digits_value_after 10 more ds) most (omega (arith, ltb-true most more over, value_after-ge more ds)) in
            rw (digit, over, past, and-false (all_ascii_digits ds)) refl
        | inr within ↦ rw (digit, within) (scanned-is most more ds (ltb-false most more within))
      ]
    ]

-- what is read from a byte on
step : (most n : ℕ) (text : List ℕ) (i : ℕ) → i < length text → scanned most n (drop i text) ≡ scanned most n (get_or text i 0 ∷ drop (i + 1) text)
step most n text i lt = ap (scanned most n) (drop-cons text i 0 lt ∙ ap (λ (k : ℕ). get_or text i 0 ∷ drop k text) (sym (add-one i)))

-- one more digit
pub scanned-more : (most n : ℕ) (text : List ℕ) (i : ℕ) → i < length text → is_ascii_digit (get_or text i 0) ≡ true → n * 10 + digit_value (get_or text i 0) ≤ most → scanned most n (drop i text) ≡ scanned most (n * 10 + digit_value (get_or text i 0)) (drop (i + 1) text)
unfolding scanned
scanned-more most n text i lt digit le =
    step most n text i lt ∙ rw (digit, le-ltb most (n * 10 + digit_value (get_or text i 0)) le) refl

-- another byte than a digit
pub scanned-other : (most n : ℕ) (text : List ℕ) (i : ℕ) → i < length text → is_ascii_digit (get_or text i 0) ≡ false → scanned most n (drop i text) ≡ None
unfolding scanned
scanned-other most n text i lt other = step most n text i lt ∙ rw other refl

-- a number that passes the bound
pub scanned-over : (most n : ℕ) (text : List ℕ) (i : ℕ) → i < length text → is_ascii_digit (get_or text i 0) ≡ true → most < n * 10 + digit_value (get_or text i 0) → scanned most n (drop i text) ≡ None
unfolding scanned
scanned-over most n text i lt digit over =
    step most n text i lt ∙ rw (digit, lt-ltb most (n * 10 + digit_value (get_or text i 0)) over) refl

-- one or more digits are read so
pub digits_up_to-is : (most : ℕ) (text : List ℕ) → 0 < length text → digits_up_to most text ≡ scanned most 0 text
unfolding digits_up_to
digits_up_to-is most text some = rw (lt-ltb 0 (length text) some) (sym (scanned-is most 0 text (omega arith)))

pub digits_up_to-none : (most : ℕ) (text : List ℕ) → length text ≡ 0 → digits_up_to most text ≡ None
unfolding digits_up_to
digits_up_to-none most [] none = refl
digits_up_to-none most (x ∷ xs) none = absurd (omega arith)

-- no more digits
pub scanned-all : (most n : ℕ) (text : List ℕ) (i : ℕ) → length text ≤ i → scanned most n (drop i text) ≡ Some n
unfolding scanned
scanned-all most n text i done = ap (scanned most n) (drop_of_length-le text done)

-- What the texts of a written header are read as: its key in the name of the file, and its numbers.
use Rattle.std.proofs.Common.{◌≡◌, ℕ, ◌<◌, ◌≤◌, ◌^◌, true, cond, leb, ltb, List, [], ◌∷◌, ◌++◌, length, Option, Some, None, refl, ap, ◌∙◌, arith}
use Rattle.std.specs.Prelude.{codes, pos, option_map, ◌==◌}
use Rattle.std.specs.Option.{option_or}
use Rattle.std.specs.Fmt.{decimal}
use Rattle.std.specs.Str.{all_ascii_digits}
use Rattle.std.specs.Str.Parse.{digits_value}
use Rattle.std.proofs.lemmas.Bool.{le-leb, lt-ltb}
use Rattle.std.proofs.lemmas.Fmt.{decimal_is_IsNumeral, decimal_nonempty, digits_decimal, length-decimal-le}
use Rattle.common_lemmas.proofs.Digits.{numerals}
use Rattle.text_scan.specs.Written.{decimal_of}
use Rattle.chart_model.specs.Key.{IsKey, is_key}
use Rattle.chart_model.proofs.KeyTests.{Decides-key}
use Rattle.iso8211_records.specs.declared.value.Value.TheVariants.{Text}
use Rattle.s57_subfields.specs.Number.{digits_up_to}
use Rattle.s57_subfields.specs.Texts.{before_last_dot, data_set_name, eight_bytes, key_in, nine_digits}

-- ---- the key

-- the last dot is that of the extension
before-extension : (key : List ℕ) → before_last_dot (key ++ codes "." ++ codes "000") ≡ Some key
unfolding before_last_dot
before-extension [] = refl
before-extension (byte ∷ key) =
    ap (λ (front : Option (List ℕ)). option_or (option_map (λ (front : List ℕ). byte ∷ front) front) (cond (byte == 46) (Some []) None))
    (before-extension key)

pub key-in : (key : List ℕ) → key_in (key ++ codes "." ++ codes "000") ≡ key
key-in key = rw (before-extension key) refl

pub name-is_read : (key : List ℕ) → IsKey key
    → data_set_name (Text (key ++ codes "." ++ codes "000")) ≡ Some (key ++ codes "." ++ codes "000")
unfolding data_set_name
name-is_read key is =
    ap (λ test. cond test (Some (key ++ codes "." ++ codes "000")) None) (ap is_key (key-in key) ∙ (Decides-key key).1 is)

-- ---- numbers

digits-are_read : (n : ℕ) → n ≤ 999999999 → digits_up_to 999999999 (decimal n) ≡ Some n
unfolding digits_up_to
digits-are_read n le =
    let small : n < 2 ^ 64 = omega arith in
    let some : ltb 0 (length (decimal n)) ≡ true = lt-ltb _ _ (decimal_nonempty n small) in
    let digits : all_ascii_digits (decimal n) ≡ true = digits_decimal numerals n small in
    let value : digits_value 10 (decimal n) ≡ n = (decimal_is_IsNumeral n small).1 in
    let fits : leb n 999999999 ≡ true = le-leb _ _ le in
    rw (some, digits, value, fits) refl

pub number-is_read : (n : ℕ) → n ≤ 999999999 → nine_digits (Text (decimal_of (pos n))) ≡ Some n
unfolding nine_digits
number-is_read n le =
    let short : leb (length (decimal n)) 9 ≡ true = le-leb _ _ (length-decimal-le 9 n (omega arith) (omega arith) (omega arith)) in
    rw short (digits-are_read n le)

-- ---- the date

pub date-is_read : (date : List ℕ) → length date ≡ 8 → eight_bytes (Text date) ≡ Some date
unfolding eight_bytes
date-is_read date eight = rw eight refl

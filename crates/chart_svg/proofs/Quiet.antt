-- Text within a document is quiet.
use Rattle.std.proofs.Common.{◌≡◌, ℕ, ◌+◌, ◌<◌, ◌^◌, Bool, true, false, cond, eqb, ltb, leb, List, [], ◌∷◌, ◌++◌, length, refl, sym, ap, ◌∙◌, subst, arith, ⊎_elim}
use Rattle.std.specs.Prelude.{All, pos, codes, not, ◌&&◌}
use Rattle.std.specs.Int.{IsInRange}
use Rattle.std.specs.List.{flat_map, list_all}
use Rattle.std.proofs.lemmas.Bool.{and_parts, leb-true, ltb-true, eqb-false, not-true, cond-true, cond-false, cond_both, cases_Bool}
use Rattle.std.proofs.lemmas.Fmt.{decimal_is_IsNumeral}
use Rattle.std.proofs.lemmas.Str.Parse.{digit_at}
use Rattle.std.proofs.lemmas.List.Elements.{All-nil, All-cons, All-head, All-tail, All-append, All-from_get_or}
use Rattle.text_scan.specs.Written.{decimal_of}
use Rattle.chart_svg.specs.Escape.{is_plain, shown_as, reference, escaped_byte, escaped, IsQuiet}

-- ---- text that stands for itself

pub plain_text : (text : List ℕ) → list_all is_plain text ≡ true → escaped text ≡ text
plain_text [] all = refl
plain_text (byte ∷ rest) all =
    let parts = and_parts (is_plain byte) (list_all is_plain rest) all in
    ap (λ (l : List ℕ). l ++ escaped rest) (cond-true (is_plain byte) _ _ parts.0)
    ∙ ap (λ (l : List ℕ). byte ∷ l) (plain_text rest parts.1)

-- ---- each byte

plain_is_quiet : (byte : ℕ) → is_plain byte ≡ true → IsQuiet byte
plain_is_quiet byte plain =
    let halves = and_parts (leb 32 byte && leb byte 126) _ plain in
    let range = and_parts (leb 32 byte) (leb byte 126) halves.0 in
    let others = and_parts (not (eqb byte 34) && not (eqb byte 38)) (not (eqb byte 60) && not (eqb byte 62)) halves.1 in
    let one = and_parts (not (eqb byte 34)) (not (eqb byte 38)) others.0 in
    let two = and_parts (not (eqb byte 60)) (not (eqb byte 62)) others.1 in
    record {
      low = leb-true 32 byte range.0;
      high = leb-true byte 126 range.1;
      no_quote = eqb-false byte 34 (not-true _ one.0);
      no_less = eqb-false byte 60 (not-true _ two.0);
      no_greater = eqb-false byte 62 (not-true _ two.1);
    }

digit_is_quiet : (byte : ℕ) → IsInRange 48 57 byte → IsQuiet byte
digit_is_quiet byte digit = record {
  low = omega (arith, digit);
  high = omega (arith, digit);
  no_quote = λ e. omega (arith, digit, e);
  no_less = λ e. omega (arith, digit, e);
  no_greater = λ e. omega (arith, digit, e);
}

number_is_quiet : (n : ℕ) → n < 2 ^ 64 → All IsQuiet (decimal_of (pos n))
number_is_quiet n small =
    let digits = (decimal_is_IsNumeral n small).0.1 in
    All-from_get_or IsQuiet (decimal_of (pos n)) 0 (λ i within. digit_is_quiet _ (digit_at (decimal_of (pos n)) i digits within))

few : (byte : ℕ) → byte < 256 → shown_as byte < 2 ^ 64
few byte small = cond_both (ltb byte 32) (9216 + byte) byte (λ n. n < 2 ^ 64) (λ e. omega (arith, small)) (λ e. omega (arith, small))

signs_are_quiet : IsQuiet 38 × IsQuiet 35 × IsQuiet 59
signs_are_quiet = (
  record { low = omega arith; high = omega arith; no_quote = λ e. omega (arith, e); no_less = λ e. omega (arith, e); no_greater = λ e. omega (arith, e) },
  record { low = omega arith; high = omega arith; no_quote = λ e. omega (arith, e); no_less = λ e. omega (arith, e); no_greater = λ e. omega (arith, e) },
  record { low = omega arith; high = omega arith; no_quote = λ e. omega (arith, e); no_less = λ e. omega (arith, e); no_greater = λ e. omega (arith, e) },
)

opening_is_quiet : All IsQuiet (codes "&#")
opening_is_quiet =
    All-cons IsQuiet 38 (35 ∷ []) (signs_are_quiet.0) (All-cons IsQuiet 35 [] (signs_are_quiet.1) (All-nil IsQuiet))

reference_is_quiet : (n : ℕ) → n < 2 ^ 64 → All IsQuiet (reference n)
reference_is_quiet n small =
    All-append IsQuiet (codes "&#" ++ decimal_of (pos n)) (codes ";")
    (All-append IsQuiet (codes "&#") (decimal_of (pos n)) opening_is_quiet (number_is_quiet n small))
    (All-cons IsQuiet 59 [] (signs_are_quiet.2) (All-nil IsQuiet))

byte_is_quiet : (byte : ℕ) → byte < 256 → All IsQuiet (escaped_byte byte)
byte_is_quiet byte small =
    cond_both (is_plain byte) (byte ∷ []) (reference (shown_as byte)) (All IsQuiet)
    (λ plain. All-cons IsQuiet byte [] (plain_is_quiet byte plain) (All-nil IsQuiet))
    (λ special. reference_is_quiet (shown_as byte) (few byte small))

pub text_is_quiet : (text : List ℕ) → All (λ byte. byte < 256) text → All IsQuiet (escaped text)
text_is_quiet [] small = All-nil IsQuiet
text_is_quiet (byte ∷ rest) small =
    All-append IsQuiet (escaped_byte byte) (escaped rest)
    (byte_is_quiet byte (All-head (λ b. b < 256) byte rest small))
    (text_is_quiet rest (All-tail (λ b. b < 256) byte rest small))

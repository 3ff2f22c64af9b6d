-- A value that is read at the front of bytes is spelled there, and one that is spelled there is read.
use Rattle.std.proofs.Common.{◌≡◌, ℕ, ℤ, suc, ◌+◌, ◌/◌, ◌≤◌, ◌<◌, Bool, true, false, cond, eqb, List, [], ◌∷◌, ◌++◌, length, get_or, take, drop, Option, Some, None, refl, sym, ap, ◌∙◌, subst, append_assoc, add-one, drop-cons, arith, inl, inr, not}
use Rattle.std.specs.Prelude.{position, pos, nat_lt, nat_le, ◌&&◌, ◌||◌}
use Rattle.std.specs.List.{AllByRecursion, prefix_len}
use Rattle.std.proofs.lemmas.Bool.Decides.{nat_tests}
use Rattle.std.proofs.lemmas.Bool.{eqb-true, cases_eq}
use Rattle.std.proofs.lemmas.List.{take-append-drop, length-append, length-take, get_or-take}
use Rattle.std.proofs.lemmas.List.Quantifiers.{position-Some}
use Rattle.std.proofs.Math.Seq.{take-append_seam, drop-append_seam, drop-append-add}
use Rattle.iso8211_formats.specs.declared.format.Format.{Format}
use Rattle.iso8211_formats.specs.declared.format.Format.TheVariants.{TextOpen, Text as TextOf, Unsigned, Signed, Bits as BitsOf}
use Rattle.iso8211_records.specs.declared.value.Value.{Value}
use Rattle.iso8211_records.specs.declared.value.Value.TheVariants.{Number, Text, Bits}
use Rattle.iso8211_records.specs.Spelling.{IsNumberSize, IsTextByte, Spells, unsigned_of, signed_of}
use Rattle.iso8211_records.specs.Values.{front_at, number_size, is_terminator, open_text_at, value_at}
use Rattle.iso8211_formats.proofs.GivenValues.{bind_some}
use Rattle.iso8211_records.proofs.PassedTests.{both_parts, both}

-- what a front of bytes is
pub record IsFront (size : ℕ) (bytes front rest : List ℕ) : Type 0 where
  pub some : 0 < size
  pub len : length front ≡ size
  pub parts : bytes ≡ front ++ rest

pub front_at-found : (size : ℕ) (bytes front rest : List ℕ) → front_at size bytes ≡ Some (front, rest) → IsFront size bytes front rest
unfolding front_at
front_at-found size bytes front rest h =
    let cut : take size bytes ≡ front = grind arith in
    let left : drop size bytes ≡ rest = grind arith in
    let test : (nat_lt 0 size && nat_le size (length bytes)) ≡ true = grind arith in
    let parts = both_parts (nat_lt 0 size) (nat_le size (length bytes)) test in
    let some : 0 < size = grind (arith, nat_tests, parts.0) in
    let fits : size ≤ length bytes = grind (arith, nat_tests, parts.1) in
    record {
      some = some;
      len = ap length (sym cut) ∙ omega (arith, length-take size bytes);
      parts = sym (take-append-drop size bytes) ∙ ap (λ (l : List ℕ). l ++ drop size bytes) cut ∙ ap (λ (l : List ℕ). front ++ l) left;
    }

pub front_at-again : (size : ℕ) (front rest : List ℕ) → 0 < size → length front ≡ size → front_at size (front ++ rest) ≡ Some (front, rest)
unfolding front_at
front_at-again size front rest some len =
    let low : nat_lt 0 size ≡ true = grind (arith, nat_tests) in
    let high : nat_le size (length (front ++ rest)) ≡ true = let fits : size ≤ length (front ++ rest) = omega (arith, length-append front rest) in grind (arith, nat_tests) in
    let cut : take size (front ++ rest) ≡ front = rw (sym len) (take-append_seam front rest) in
    let left : drop size (front ++ rest) ≡ rest = rw (sym len) (drop-append_seam front rest) in
    rw (both _ _ low high, cut, left) refl

-- ---- texts without a width

plain_byte : (byte : ℕ) → IsTextByte byte → not (is_terminator byte) ≡ true
plain_byte byte plain = grind (arith, nat_tests)

plain_from : (byte : ℕ) → is_terminator byte ≡ false → IsTextByte byte
plain_from byte h = grind (arith, nat_tests)

prefix-open : (text rest : List ℕ) → AllByRecursion IsTextByte text → prefix_len (λ x. not (is_terminator x)) (text ++ 31 ∷ rest) ≡ length text
prefix-open [] rest plain = refl
prefix-open (byte ∷ text) rest plain = rw (plain_byte byte plain.0, prefix-open text rest plain.1) (omega arith)

terminator_place : (text rest : List ℕ) → AllByRecursion IsTextByte text → position is_terminator (text ++ 31 ∷ rest) ≡ Some (length text)
terminator_place text rest plain =
    let place = prefix-open text rest plain in
    let inside : length text < length (text ++ 31 ∷ rest) = omega (arith, length-append text (31 ∷ rest)) in
    let test : nat_lt (length text) (length (text ++ 31 ∷ rest)) ≡ true = grind (arith, nat_tests) in
    rw (place, test) refl

all_plain : (text : List ℕ) → ((k : ℕ) → k < length text → is_terminator (get_or text k 0) ≡ false) → AllByRecursion IsTextByte text
all_plain [] h = tt
all_plain (byte ∷ text) h = (plain_from byte (h 0 (omega arith)), all_plain text (λ k lt. h (suc k) (omega arith)))

rejoined : (bytes text rest : List ℕ) (end : ℕ) → end < length bytes → take end bytes ≡ text → drop (end + 1) bytes ≡ rest → get_or bytes end 0 ≡ 31 → bytes ≡ (text ++ 31 ∷ []) ++ rest
rejoined bytes text rest end inside cut left ends =
    let next : drop (suc end) bytes ≡ rest = rw add-one at left in
    let after : drop end bytes ≡ 31 ∷ rest = drop-cons bytes end 0 inside ∙ rw (ends, next) refl in
    sym (take-append-drop end bytes) ∙ rw (cut, after, append_assoc) refl

pub open_text_at-found : (bytes text rest : List ℕ) → open_text_at bytes ≡ Some (text, rest) → AllByRecursion IsTextByte text × (bytes ≡ (text ++ 31 ∷ []) ++ rest)
unfolding open_text_at
open_text_at-found bytes text rest h =
    let p = bind_some (position is_terminator bytes) (λ end. cond {A = Option (List ℕ × List ℕ)} (eqb (get_or bytes end 0) 31) (Some (take end bytes, drop (end + 1) bytes)) None) (text, rest) h in
    let end : ℕ = p.0 in
    let found : cond {A = Option (List ℕ × List ℕ)} (eqb (get_or bytes end 0) 31) (Some (take end bytes, drop (end + 1) bytes)) None ≡ Some (text, rest) = p.2 in
    let cut : take end bytes ≡ text = grind arith in
    let left : drop (end + 1) bytes ≡ rest = grind arith in
    let test : eqb (get_or bytes end 0) 31 ≡ true = grind arith in
    let ends : get_or bytes end 0 ≡ 31 = eqb-true (get_or bytes end 0) 31 test in
    let at = position-Some is_terminator bytes end 0 p.1 in (
      subst (λ (l : List ℕ). AllByRecursion IsTextByte l) cut (all_plain (take end bytes) (λ k lt. let inside : k < end = omega (arith, length-take end bytes) in rw (get_or-take end bytes k 0 inside) (at.2 k inside))),
      rejoined bytes text rest end at.0 cut left ends,
    )

get_or-append_seam : (text rest : List ℕ) → get_or (text ++ 31 ∷ rest) (length text) 0 ≡ 31
get_or-append_seam [] rest = refl
get_or-append_seam (byte ∷ text) rest = get_or-append_seam text rest

pub open_text_at-again : (text rest : List ℕ) → AllByRecursion IsTextByte text → open_text_at ((text ++ 31 ∷ []) ++ rest) ≡ Some (text, rest)
unfolding open_text_at
open_text_at-again text rest plain =
    let ends : get_or (text ++ 31 ∷ rest) (length text) 0 ≡ 31 = get_or-append_seam text rest in
    let left : drop (length text + 1) (text ++ 31 ∷ rest) ≡ rest = drop-append-add text (31 ∷ rest) 1 in
    rw (append_assoc, terminator_place text rest plain, ends, take-append_seam text (31 ∷ rest), left) refl

-- ---- numbers

abbrev is_number : ℕ → Bool
is_number size = eqb size 1 || (eqb size 2 || eqb size 4)

is_number-true : (size : ℕ) → is_number size ≡ true → IsNumberSize size
is_number-true size e =
    elim (cases_eq size 1) [
      | inl one ↦ inl one
      | inr other ↦ elim (cases_eq size 2) [
        | inl two ↦ inr (inl two)
        | inr other_too ↦ inr (inr (grind (arith, nat_tests)))
      ]
    ]

number_size-is : (size : ℕ) → 0 < number_size size → IsNumberSize size × (number_size size ≡ size)
number_size-is size some =
    elim (is_number size) as (λ b. is_number size ≡ b → IsNumberSize size × (number_size size ≡ size)) [
      | true ↦ λ e. (is_number-true size e, rw e refl)
      | false ↦ λ e. absurd (let none : number_size size ≡ 0 = rw e refl in omega arith)
    ] refl

is-number_size : (size : ℕ) → IsNumberSize size → number_size size ≡ size
is-number_size size (inl one) = rw one refl
is-number_size size (inr (inl two)) = rw two refl
is-number_size size (inr (inr four)) = rw four refl

-- the size of a binary number isn't 0
number-some : (size : ℕ) (front : List ℕ) → IsNumberSize size → length front ≡ size → 0 < size
number-some size front (inl one) len = omega arith
number-some size front (inr (inl two)) len = omega arith
number-some size front (inr (inr four)) len = omega arith

-- ---- values

pub value_at-found : (format : Format) (bytes : List ℕ) (value : Value) (rest : List ℕ) → value_at format bytes ≡ Some (value, rest) → (front : List ℕ) × (bytes ≡ front ++ rest) × Spells format value front
unfolding value_at
value_at-found TextOpen bytes value rest h =
    let p = bind_some (open_text_at bytes) (λ text. Some (Text text.0, text.1)) (value, rest) h in
    let is : Text p.0.0 ≡ value = grind arith in
    let left : p.0.1 ≡ rest = grind arith in
    let spelled = open_text_at-found bytes p.0.0 p.0.1 p.1 in
    (p.0.0 ++ 31 ∷ [], spelled.1 ∙ ap (λ (l : List ℕ). (p.0.0 ++ 31 ∷ []) ++ l) left, subst (λ (v : Value). Spells TextOpen v (p.0.0 ++ 31 ∷ [])) is (spelled.0, refl))
value_at-found (TextOf width) bytes value rest h =
    let p = bind_some (front_at width bytes) (λ text. Some (Text text.0, text.1)) (value, rest) h in
    let is : Text p.0.0 ≡ value = grind arith in
    let left : p.0.1 ≡ rest = grind arith in
    let found = front_at-found width bytes p.0.0 p.0.1 p.1 in
    (p.0.0, found.parts ∙ ap (λ (l : List ℕ). p.0.0 ++ l) left, subst (λ (v : Value). Spells (TextOf width) v p.0.0) is (found.some, found.len, refl))
value_at-found (Unsigned size) bytes value rest h =
    let p = bind_some (front_at (number_size size) bytes) (λ number. Some (Number (pos (unsigned_of number.0)), number.1)) (value, rest) h in
    let is : Number (pos (unsigned_of p.0.0)) ≡ value = grind arith in
    let left : p.0.1 ≡ rest = grind arith in
    let found = front_at-found (number_size size) bytes p.0.0 p.0.1 p.1 in
    let number = number_size-is size found.some in
    (p.0.0, found.parts ∙ ap (λ (l : List ℕ). p.0.0 ++ l) left, subst (λ (v : Value). Spells (Unsigned size) v p.0.0) is (number.0, found.len ∙ number.1, refl))
value_at-found (Signed size) bytes value rest h =
    let p = bind_some (front_at (number_size size) bytes) (λ number. Some (Number (signed_of number.0), number.1)) (value, rest) h in
    let is : Number (signed_of p.0.0) ≡ value = grind arith in
    let left : p.0.1 ≡ rest = grind arith in
    let found = front_at-found (number_size size) bytes p.0.0 p.0.1 p.1 in
    let number = number_size-is size found.some in
    (p.0.0, found.parts ∙ ap (λ (l : List ℕ). p.0.0 ++ l) left, subst (λ (v : Value). Spells (Signed size) v p.0.0) is (number.0, found.len ∙ number.1, refl))
value_at-found (BitsOf count) bytes value rest h =
    let p = bind_some (front_at (count / 8) bytes) (λ bits. Some (Bits bits.0, bits.1)) (value, rest) h in
    let is : Bits p.0.0 ≡ value = grind arith in
    let left : p.0.1 ≡ rest = grind arith in
    let found = front_at-found (count / 8) bytes p.0.0 p.0.1 p.1 in
    (p.0.0, found.parts ∙ ap (λ (l : List ℕ). p.0.0 ++ l) left, subst (λ (v : Value). Spells (BitsOf count) v p.0.0) is (found.some, found.len, refl))

-- what holds of the spellings of each format by a value of its kind holds of each spelling
pub by_kind : (P : Format → Value → List ℕ → Type 0)
    → ((text bytes : List ℕ) → Spells TextOpen (Text text) bytes → P TextOpen (Text text) bytes)
    → ((width : ℕ) (text bytes : List ℕ) → Spells (TextOf width) (Text text) bytes → P (TextOf width) (Text text) bytes)
    → ((size : ℕ) (number : ℤ) (bytes : List ℕ) → Spells (Unsigned size) (Number number) bytes → P (Unsigned size) (Number number) bytes)
    → ((size : ℕ) (number : ℤ) (bytes : List ℕ) → Spells (Signed size) (Number number) bytes → P (Signed size) (Number number) bytes)
    → ((count : ℕ) (bits bytes : List ℕ) → Spells (BitsOf count) (Bits bits) bytes → P (BitsOf count) (Bits bits) bytes)
    → (format : Format) (value : Value) (bytes : List ℕ) → Spells format value bytes → P format value bytes
by_kind P in_open in_text in_unsigned in_signed in_bits TextOpen (Text text) bytes h = in_open text bytes h
by_kind P in_open in_text in_unsigned in_signed in_bits (TextOf width) (Text text) bytes h = in_text width text bytes h
by_kind P in_open in_text in_unsigned in_signed in_bits (Unsigned size) (Number number) bytes h = in_unsigned size number bytes h
by_kind P in_open in_text in_unsigned in_signed in_bits (Signed size) (Number number) bytes h = in_signed size number bytes h
by_kind P in_open in_text in_unsigned in_signed in_bits (BitsOf count) (Bits bits) bytes h = in_bits count bits bytes h
by_kind P in_open in_text in_unsigned in_signed in_bits TextOpen (Number number) bytes h = absurd h
by_kind P in_open in_text in_unsigned in_signed in_bits TextOpen (Bits bits) bytes h = absurd h
by_kind P in_open in_text in_unsigned in_signed in_bits (TextOf width) (Number number) bytes h = absurd h
by_kind P in_open in_text in_unsigned in_signed in_bits (TextOf width) (Bits bits) bytes h = absurd h
by_kind P in_open in_text in_unsigned in_signed in_bits (Unsigned size) (Text text) bytes h = absurd h
by_kind P in_open in_text in_unsigned in_signed in_bits (Unsigned size) (Bits bits) bytes h = absurd h
by_kind P in_open in_text in_unsigned in_signed in_bits (Signed size) (Text text) bytes h = absurd h
by_kind P in_open in_text in_unsigned in_signed in_bits (Signed size) (Bits bits) bytes h = absurd h
by_kind P in_open in_text in_unsigned in_signed in_bits (BitsOf count) (Number number) bytes h = absurd h
by_kind P in_open in_text in_unsigned in_signed in_bits (BitsOf count) (Text text) bytes h = absurd h

pub value_at-again : (format : Format) (value : Value) (front rest : List ℕ) → Spells format value front → value_at format (front ++ rest) ≡ Some (value, rest)
unfolding value_at
value_at-again format value front rest h =
    by_kind (λ f v bytes. value_at f (bytes ++ rest) ≡ Some (v, rest))
    (λ text bytes h. rw (h.1, open_text_at-again text rest h.0) refl)
    (λ width text bytes h. rw (h.2, front_at-again width text rest h.0 h.1) refl)
    (λ size number bytes h.
    let some : 0 < size = number-some size bytes h.0 h.1 in
    rw (is-number_size size h.0, front_at-again size bytes rest some h.1, h.2) refl)
    (λ size number bytes h.
    let some : 0 < size = number-some size bytes h.0 h.1 in
    rw (is-number_size size h.0, front_at-again size bytes rest some h.1, h.2) refl)
    (λ count bits bytes h. rw (h.2, front_at-again (count / 8) bits rest h.0 h.1) refl)
    format value front h

-- each spelling has a byte at least
pub Spells-some : (format : Format) (value : Value) (front : List ℕ) → Spells format value front → 0 < length front
Spells-some format value front h =
    by_kind (λ f v bytes. 0 < length bytes)
    (λ text bytes h. let len : length bytes ≡ length (text ++ 31 ∷ []) = ap length h.1 in omega (arith, length-append text (31 ∷ [])))
    (λ width text bytes h. let len : length bytes ≡ length text = ap length h.2 in omega (arith, h.0, h.1))
    (λ size number bytes h. let some : 0 < size = number-some size bytes h.0 h.1 in omega (arith, h.1))
    (λ size number bytes h. let some : 0 < size = number-some size bytes h.0 h.1 in omega (arith, h.1))
    (λ count bits bytes h. let len : length bytes ≡ length bits = ap length h.2 in omega (arith, h.0, h.1))
    format value front h

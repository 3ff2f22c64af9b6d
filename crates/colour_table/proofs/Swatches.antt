-- A line is a colour under its token as it is spelled.
use Rattle.std.proofs.Common.{◌≡◌, ◌≢◌, ℕ, ◌≤◌, Bool, true, false, cond, ◌&&◌, List, [], ◌∷◌, Option, Some, None, refl, sym, ap, ◌∙◌, subst, arith}
use Rattle.std.specs.Bool.{Decides}
use Rattle.std.specs.Prelude.{nat_le, IsTrue, option_and_then, is_none, not}
use Rattle.std.specs.List.{join_with_byte}
use Rattle.std.proofs.lemmas.Bool.{leb-true, and_parts, true≢false, false_from_ne_true}
use Rattle.std.proofs.lemmas.Bool.Decides.{nat_tests}
use Rattle.std.proofs.lemmas.List.Elements.{All-nil, All-cons}
use Rattle.common_lemmas.proofs.Choices.{some_is}
use Rattle.text_scan.specs.Number.{number_of}
use Rattle.text_scan.proofs.Numbers.{NumbersAreSpelled}
use Rattle.text_lines.specs.Lines.{IsSilent, is_silent, parts_at, Lacks}
use Rattle.text_lines.proofs.Parting.{PartsAreFound, PartsAreJoined, digits_lack}
use Rattle.colour_table.specs.declared.swatch.Colour.{Colour}
use Rattle.colour_table.specs.declared.swatch.Swatch.{Swatch}
use Rattle.colour_table.specs.Token.{IsToken, is_token, token_of}
use Rattle.colour_table.specs.Swatch.{SpellsIntensity, Spells, IsBad, in_range, intensity_of, colour_with, swatch_with, swatch_in, swatch_of}
use Rattle.colour_table.specs.Reading.{is_bad}
use Rattle.colour_table.proofs.Tokens.{Decides-token, token_some, token_lacks}

-- ---- intensities

range_is : (n m : ℕ) → in_range n ≡ Some m → (n ≡ m) × (m ≤ 255)
range_is n m e =
    elim (nat_le n 255) as (λ b. nat_le n 255 ≡ b → cond b (Some n) None ≡ Some m → (n ≡ m) × (m ≤ 255)) [
      | true ↦ λ h f.
          let same = some_is n m f in
          let high = leb-true n 255 h in
          (same, omega arith)
      | false ↦ λ h f. absurd cc
    ] refl e

range_told : (n : ℕ) → n ≤ 255 → in_range n ≡ Some n
range_told n high = grind (arith, nat_tests)

intensity_is : NumbersAreSpelled → (digits : List ℕ) (n : ℕ) → intensity_of digits ≡ Some n → SpellsIntensity digits n
intensity_is spelled digits n e = by (number_of digits) refl e
  where
    by : (o : Option ℕ) → number_of digits ≡ o → option_and_then in_range o ≡ Some n → SpellsIntensity digits n
    by None is e = absurd cc
    by (Some m) is e =
        let number = (spelled digits m).0 is in
        let range = range_is m n e in
        record { number = number.0; value = sym (number.1 ∙ range.0); range = range.1 }

intensity_told : NumbersAreSpelled → (digits : List ℕ) (n : ℕ) → SpellsIntensity digits n → intensity_of digits ≡ Some n
intensity_told spelled digits n s =
    ap (option_and_then in_range) ((spelled digits n).1 (s.number, sym s.value)) ∙ range_told n s.range

intensity_lacks : (digits : List ℕ) (n : ℕ) → SpellsIntensity digits n → Lacks 32 digits
intensity_lacks digits n s = digits_lack digits s.number.0.1

-- ---- tokens and colours

token_is : (text token : List ℕ) → token_of text ≡ Some token → (text ≡ token) × IsToken token
token_is text token e =
    elim (is_token text) as (λ b. is_token text ≡ b → cond b (Some text) None ≡ Some token → (text ≡ token) × IsToken token) [
      | true ↦ λ h f.
          let same = some_is text token f in
          (same, subst IsToken same ((Decides-token text).0 h))
      | false ↦ λ h f. absurd cc
    ] refl e

-- the parts of a colour that is there
pub record IsMixed (red green blue : Option ℕ) (colour : Colour) : Type 0 where
  pub red_is : red ≡ Some colour.red
  pub green_is : green ≡ Some colour.green
  pub blue_is : blue ≡ Some colour.blue

mixed : (red green blue : Option ℕ) (colour : Colour) → colour_with red green blue ≡ Some colour → IsMixed red green blue colour
mixed (Some r) (Some g) (Some b) colour e =
    let same : ◌≡◌ {A = Colour} (record { red = r; green = g; blue = b }) colour = some_is _ _ e in
    record {
      red_is = ap (λ (x : Colour). Some x.red) same;
      green_is = ap (λ (x : Colour). Some x.green) same;
      blue_is = ap (λ (x : Colour). Some x.blue) same;
    }
mixed (Some r) (Some g) None colour e = absurd cc
mixed (Some r) None b colour e = absurd cc
mixed None g b colour e = absurd cc

-- the parts of a colour under its token that is there
pub record IsMade (token : Option (List ℕ)) (colour : Option Colour) (swatch : Swatch) : Type 0 where
  pub token_is : token ≡ Some swatch.token
  pub colour_is : colour ≡ Some swatch.colour

made : (token : Option (List ℕ)) (colour : Option Colour) (swatch : Swatch) → swatch_with token colour ≡ Some swatch → IsMade token colour swatch
made (Some t) (Some c) swatch e =
    let same : ◌≡◌ {A = Swatch} (record { token = t; colour = c }) swatch = some_is _ _ e in
    record {
      token_is = ap (λ (x : Swatch). Some x.token) same;
      colour_is = ap (λ (x : Swatch). Some x.colour) same;
    }
made (Some t) None swatch e = absurd cc
made None c swatch e = absurd cc

-- ---- lines

words_is : NumbersAreSpelled → (line token red green blue : List ℕ) (swatch : Swatch) → line ≡ join_with_byte 32 (token ∷ red ∷ green ∷ blue ∷ [])
    → swatch_with (token_of token) (colour_with (intensity_of red) (intensity_of green) (intensity_of blue)) ≡ Some swatch → Spells line swatch
words_is spelled line token red green blue swatch parted e =
    let m = made (token_of token) (colour_with (intensity_of red) (intensity_of green) (intensity_of blue)) swatch e in
    let t = token_is token swatch.token m.token_is in
    let c = mixed (intensity_of red) (intensity_of green) (intensity_of blue) swatch.colour m.colour_is in
    record {
      red_digits = red;
      green_digits = green;
      blue_digits = blue;
      parted = parted ∙ ap (λ (l : List ℕ). join_with_byte 32 (l ∷ red ∷ green ∷ blue ∷ [])) t.0;
      token = t.1;
      red = intensity_is spelled red swatch.colour.red c.red_is;
      green = intensity_is spelled green swatch.colour.green c.green_is;
      blue = intensity_is spelled blue swatch.colour.blue c.blue_is;
    }

in_words : NumbersAreSpelled → (line : List ℕ) (words : List (List ℕ)) (swatch : Swatch) → line ≡ join_with_byte 32 words → swatch_in words ≡ Some swatch → Spells line swatch
unfolding swatch_in
in_words spelled line [] swatch parted e = absurd cc
in_words spelled line (token ∷ []) swatch parted e = absurd cc
in_words spelled line (token ∷ red ∷ []) swatch parted e = absurd cc
in_words spelled line (token ∷ red ∷ green ∷ []) swatch parted e = absurd cc
in_words spelled line (token ∷ red ∷ green ∷ blue ∷ []) swatch parted e = words_is spelled line token red green blue swatch parted e
in_words spelled line (token ∷ red ∷ green ∷ blue ∷ other ∷ more) swatch parted e = absurd cc

pub swatch_spelled : NumbersAreSpelled → PartsAreJoined → (line : List ℕ) (swatch : Swatch) → swatch_of line ≡ Some swatch → Spells line swatch
swatch_spelled spelled joined line swatch e = in_words spelled line (parts_at 32 line) swatch (sym (joined 32 line)) e

four : (token red green blue : List ℕ) (swatch : Swatch) → token_of token ≡ Some swatch.token → intensity_of red ≡ Some swatch.colour.red
    → intensity_of green ≡ Some swatch.colour.green → intensity_of blue ≡ Some swatch.colour.blue
    → swatch_in (token ∷ red ∷ green ∷ blue ∷ []) ≡ Some swatch
unfolding swatch_in
four token red green blue swatch t r g b = λ i. swatch_with (t i) (colour_with (r i) (g i) (b i))

pub spelled_swatch : NumbersAreSpelled → PartsAreFound → (line : List ℕ) (swatch : Swatch) → Spells line swatch → swatch_of line ≡ Some swatch
spelled_swatch spelled found line swatch s =
    ap swatch_of s.parted
    ∙ ap swatch_in (found 32 swatch.token (s.red_digits ∷ s.green_digits ∷ s.blue_digits ∷ [])
    (All-cons (Lacks 32) swatch.token (s.red_digits ∷ s.green_digits ∷ s.blue_digits ∷ []) (token_lacks swatch.token s.token)
    (All-cons (Lacks 32) s.red_digits (s.green_digits ∷ s.blue_digits ∷ []) (intensity_lacks s.red_digits swatch.colour.red s.red)
    (All-cons (Lacks 32) s.green_digits (s.blue_digits ∷ []) (intensity_lacks s.green_digits swatch.colour.green s.green)
    (All-cons (Lacks 32) s.blue_digits [] (intensity_lacks s.blue_digits swatch.colour.blue s.blue) (All-nil (Lacks 32)))))))
    ∙ four swatch.token s.red_digits s.green_digits s.blue_digits swatch (token_some swatch.token s.token)
    (intensity_told spelled s.red_digits swatch.colour.red s.red) (intensity_told spelled s.green_digits swatch.colour.green s.green)
    (intensity_told spelled s.blue_digits swatch.colour.blue s.blue)

-- ---- bad lines

silent_tests : (line : List ℕ) → Decides (is_silent line) (IsSilent line)
silent_tests [] = (λ _. tt, λ _. refl)
silent_tests (first ∷ rest) = (λ h. grind (arith, nat_tests), λ h. grind (arith, nat_tests))

refuted : (a b : Bool) → not a ≡ true → a ≡ true → ⊥
refuted true b h k = true≢false (sym h)
refuted false b h k = true≢false (sym k)

none_refuted : (o : Option Swatch) (swatch : Swatch) → is_none o ≡ true → o ≡ Some swatch → ⊥
none_refuted None swatch h e = cc
none_refuted (Some x) swatch h e = true≢false (sym h)

pub bad-to : NumbersAreSpelled → PartsAreFound → (line : List ℕ) → IsTrue (is_bad line) → IsBad line
bad-to spelled found line h =
    let p = and_parts (not (is_silent line)) (is_none (swatch_of line)) h in
    record {
      speaks = λ s. refuted (is_silent line) true p.0 ((silent_tests line).1 s);
      no_swatch = λ swatch s. none_refuted (swatch_of line) swatch p.1 (spelled_swatch spelled found line swatch s);
    }

none_told : (o : Option Swatch) → ((swatch : Swatch) → o ≢ Some swatch) → is_none o ≡ true
none_told None h = refl
none_told (Some x) h = absurd (h x refl)

both_true : (a b : Bool) → a ≡ false → b ≡ true → (not a && b) ≡ true
both_true a b h k = λ i. not (h i) && k i

pub bad-from : NumbersAreSpelled → PartsAreJoined → (line : List ℕ) → IsBad line → IsTrue (is_bad line)
bad-from spelled joined line h =
    both_true (is_silent line) (is_none (swatch_of line))
    (false_from_ne_true (is_silent line) (λ t. h.speaks ((silent_tests line).0 t)))
    (none_told (swatch_of line) (λ swatch e. h.no_swatch swatch (swatch_spelled spelled joined line swatch e)))

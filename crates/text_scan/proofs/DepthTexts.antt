-- A depth is read as it is spelled.
use Rattle.std.proofs.Common.{◌≡◌, ℕ, ◌+◌, ◌*◌, ◌^◌, ◌<◌, ◌≤◌, Bool, true, false, cond, ltb, leb, eqb, ◌&&◌, ◌⊎◌, List}
use Rattle.std.proofs.Common.{[], ◌∷◌, ◌++◌, length, Option, Some, None, refl, sym, ap, subst, ◌∙◌, inl, inr, arith}
use Rattle.std.proofs.Common.{append_assoc, append-nil, lit<, length-append}
use Rattle.std.specs.Prelude.{option_map, option_and_then, ℤ, IfSome}
use Rattle.std.specs.Str.{all_ascii_digits}
use Rattle.std.specs.List.{prefix_len, take_while}
use Rattle.std.specs.Char.{is_ascii_digit}
use Rattle.std.proofs.lemmas.List.{take-append-drop}
use Rattle.std.proofs.lemmas.Bool.{ltb-true, lt-ltb, leb-true, le-leb, eqb-true, and_parts, and_from, cases_Bool}
use Rattle.std.proofs.lemmas.Bool.{true≢false, false_from_ne_true}
use native.Mathlib.Nat.{one-le-pow}
use Rattle.common_lemmas.proofs.Choices.{chosen, map_some, some_is}
use Rattle.common_lemmas.proofs.Digits.{AllDigits-from_test, test_from_AllDigits}
use Rattle.text_scan.specs.Number.{value_of}
use Rattle.text_scan.specs.Depth.{SpellsSign, with_sign, IsFloor, SpellsDepth, behind_digits, decimals_of, digits_of}
use Rattle.text_scan.specs.Depth.{hundredths, depth_of}
use Rattle.text_scan.proofs.Floors.{floor_unique, floor_down, floor_up}
use Rattle.text_scan.proofs.Scans.{front_is_digits, cut_before}

-- the digits of a text before and behind its point
pub record HasDigits (text whole decimals : List ℕ) : Type 0 where
  pub all_whole : all_ascii_digits whole ≡ true
  pub short_whole : length whole ≤ 6
  pub all_decimals : all_ascii_digits decimals ≡ true
  pub short_decimals : length decimals ≤ 20
  pub some_digit : 1 ≤ length whole + length decimals
  pub parts : ((text ≡ whole) × (decimals ≡ [])) ⊎ (text ≡ whole ++ 46 ∷ decimals)

decimals_of_found : (text decimals : List ℕ) → decimals_of text ≡ Some decimals
    → (all_ascii_digits decimals ≡ true) × (((text ≡ []) × (decimals ≡ [])) ⊎ (text ≡ 46 ∷ decimals))
unfolding decimals_of
decimals_of_found [] decimals e =
    let none : [] ≡ decimals = some_is [] decimals e in
    (ap all_ascii_digits (sym none), inl (refl, sym none))
decimals_of_found (x ∷ xs) decimals e =
    elim (chosen (eqb x 46 && all_ascii_digits xs) (Some xs) None (Some decimals) e) [
      | inl h ↦
          let p = and_parts (eqb x 46) (all_ascii_digits xs) h.0 in
          let same = some_is xs decimals h.1 in
          (ap all_ascii_digits (sym same) ∙ p.1, inr (ap (λ (c : ℕ). c ∷ xs) (eqb-true x 46 p.0) ∙ ap (λ (t : List ℕ). 46 ∷ t) same))
      | inr h ↦ absurd (let none = h.1 in cc)
    ]

and_then_some : {A B : Type 0} (f : A → Option B) (o : Option A) (y : B) → option_and_then f o ≡ Some y
    → (x : A) × (o ≡ Some x) × (f x ≡ Some y)
and_then_some f None y e = absurd cc
and_then_some f (Some x) y e = (x, refl, e)

-- the parts of a text whose rest behind the digits has been read
parts_of : (text whole rest decimals : List ℕ) → text ≡ whole ++ rest
    → ((rest ≡ []) × (decimals ≡ [])) ⊎ (rest ≡ 46 ∷ decimals)
    → ((text ≡ whole) × (decimals ≡ [])) ⊎ (text ≡ whole ++ 46 ∷ decimals)
parts_of text whole rest decimals e (inl h) = inl (e ∙ ap (λ (t : List ℕ). whole ++ t) h.0 ∙ append-nil whole, h.1)
parts_of text whole rest decimals e (inr h) = inr (e ∙ ap (λ (t : List ℕ). whole ++ t) h)

abbrev in_range : List ℕ → List ℕ → Bool
in_range whole decimals = leb (length whole) 6 && (leb (length decimals) 20 && ltb 0 (length whole + length decimals))

pub digits_of_found : (text : List ℕ) (digits : List ℕ × List ℕ) → digits_of text ≡ Some digits
    → HasDigits text digits.0 digits.1
unfolding digits_of
digits_of_found text digits e =
    let whole = take_while is_ascii_digit text in
    let a = and_then_some _ (decimals_of (behind_digits text)) digits e in
    let front = sym (take-append-drop (prefix_len is_ascii_digit text) text) in
    let d = decimals_of_found (behind_digits text) a.0 a.1 in
    elim (chosen (in_range whole a.0) (Some (whole, a.0)) None (Some digits) a.2) [
      | inl h ↦
          let p = and_parts (leb (length whole) 6) (leb (length a.0) 20 && ltb 0 (length whole + length a.0)) h.0 in
          let q = and_parts (leb (length a.0) 20) (ltb 0 (length whole + length a.0)) p.1 in
          let some : 0 < length whole + length a.0 = ltb-true _ _ q.1 in
          let P : List ℕ × List ℕ → Type 0 = λ r. HasDigits text r.0 r.1 in
          subst P (some_is (whole, a.0) digits h.1) (record {
            all_whole = front_is_digits text;
            short_whole = leb-true _ _ p.0;
            all_decimals = d.0;
            short_decimals = leb-true _ _ q.0;
            some_digit = omega arith;
            parts = parts_of text whole (behind_digits text) a.0 front d.1;
          })
      | inr h ↦ absurd (let none = h.1 in cc)
    ]

in_range_again : (text whole decimals : List ℕ) → HasDigits text whole decimals → in_range whole decimals ≡ true
in_range_again text whole decimals h =
    and_from _ _ (le-leb _ _ h.short_whole) (and_from _ _ (le-leb _ _ h.short_decimals) (lt-ltb _ _ (omega (arith, h.some_digit))))

digits_of-parts : (text whole rest decimals : List ℕ) → take_while is_ascii_digit text ≡ whole
    → behind_digits text ≡ rest
    → decimals_of rest ≡ Some decimals → in_range whole decimals ≡ true → digits_of text ≡ Some (whole, decimals)
unfolding digits_of
digits_of-parts text whole rest decimals front behind read fits = rw (front, behind, read, fits) refl

digits_of-cut : (text whole rest decimals : List ℕ) → text ≡ whole ++ rest → all_ascii_digits whole ≡ true
    → prefix_len is_ascii_digit rest ≡ 0 → decimals_of rest ≡ Some decimals → in_range whole decimals ≡ true
    → digits_of text ≡ Some (whole, decimals)
digits_of-cut text whole rest decimals is all none read fits =
    let cut = cut_before whole rest all none in
    ap digits_of is ∙ digits_of-parts (whole ++ rest) whole rest decimals cut.0 cut.1 read fits

pub digits_of_again : (text whole decimals : List ℕ) → HasDigits text whole decimals
    → digits_of text ≡ Some (whole, decimals)
unfolding decimals_of
digits_of_again text whole decimals h =
    elim h.parts [
      | inl p ↦
          digits_of-cut text whole [] decimals (p.0 ∙ sym (append-nil whole)) h.all_whole refl
          (ap (λ (t : List ℕ). Some t) (sym p.1)) (in_range_again text whole decimals h)
      | inr p ↦
          digits_of-cut text whole (46 ∷ decimals) decimals p h.all_whole refl (rw h.all_decimals refl)
          (in_range_again text whole decimals h)
    ]

-- ---- the whole text

rounds : (negative : Bool) (digits : List ℕ × List ℕ)
    → IsFloor (with_sign negative (100 * value_of (digits.0 ++ digits.1))) (10 ^ length digits.1) (hundredths negative digits)
rounds true digits = floor_up (100 * value_of (digits.0 ++ digits.1)) (10 ^ length digits.1) (one-le-pow (length digits.1) 10 (lit< tt))
rounds false digits = floor_down (100 * value_of (digits.0 ++ digits.1)) (10 ^ length digits.1) (one-le-pow (length digits.1) 10 (lit< tt))

spelled_parts : (text sign rest whole decimals : List ℕ) → text ≡ sign ++ rest
    → ((rest ≡ whole) × (decimals ≡ [])) ⊎ (rest ≡ whole ++ 46 ∷ decimals)
    → ((text ≡ sign ++ whole) × (decimals ≡ [])) ⊎ (text ≡ sign ++ whole ++ 46 ∷ decimals)
spelled_parts text sign rest whole decimals e (inl h) = inl (e ∙ ap (λ (t : List ℕ). sign ++ t) h.0, h.1)
spelled_parts text sign rest whole decimals e (inr h) = inr (e ∙ ap (λ (t : List ℕ). sign ++ t) h ∙ sym (append_assoc sign whole (46 ∷ decimals)))

spelled : (text sign rest : List ℕ) (negative : Bool) (digits : List ℕ × List ℕ) (depth : ℤ) → text ≡ sign ++ rest
    → SpellsSign negative sign → HasDigits rest digits.0 digits.1 → hundredths negative digits ≡ depth
    → SpellsDepth text depth
spelled text sign rest negative digits depth e signed h same = record {
  negative = negative;
  sign = sign;
  whole = digits.0;
  decimals = digits.1;
  signed = signed;
  whole_digits = (AllDigits-from_test digits.0 h.all_whole, h.short_whole);
  decimal_digits = (AllDigits-from_test digits.1 h.all_decimals, h.short_decimals);
  some_digit = h.some_digit;
  parts = spelled_parts text sign rest digits.0 digits.1 e h.parts;
  rounded = subst (λ (z : ℤ). IsFloor (with_sign negative (100 * value_of (digits.0 ++ digits.1))) (10 ^ length digits.1) z) same (rounds negative digits);
}

-- with no `-` in front
plain_found : (x : ℕ) (xs : List ℕ) (depth : ℤ)
    → option_map (hundredths false) (digits_of (cond (eqb x 43) xs (x ∷ xs))) ≡ Some depth
    → SpellsDepth (x ∷ xs) depth
plain_found x xs depth e =
    elim (cases_Bool (eqb x 43)) [
      | inl h ↦
          let m = map_some (hundredths false) (digits_of xs) depth (ap (λ (b : Bool). option_map (hundredths false) (digits_of (cond b xs (x ∷ xs)))) (sym h) ∙ e) in
          spelled (x ∷ xs) (43 ∷ []) xs false m.0 depth (ap (λ (c : ℕ). c ∷ xs) (eqb-true x 43 h)) (inr refl) (digits_of_found xs m.0 m.1) m.2
      | inr h ↦
          let m = map_some (hundredths false) (digits_of (x ∷ xs)) depth (ap (λ (b : Bool). option_map (hundredths false) (digits_of (cond b xs (x ∷ xs)))) (sym h) ∙ e) in
          spelled (x ∷ xs) [] (x ∷ xs) false m.0 depth refl (inl refl) (digits_of_found (x ∷ xs) m.0 m.1) m.2
    ]

pub depth_of_found : (text : List ℕ) (depth : ℤ) → depth_of text ≡ Some depth → SpellsDepth text depth
unfolding depth_of
depth_of_found [] depth e = absurd cc
depth_of_found (x ∷ xs) depth e =
    elim (chosen (eqb x 45) (option_map (hundredths true) (digits_of xs)) (option_map (hundredths false) (digits_of (cond (eqb x 43) xs (x ∷ xs)))) (Some depth) e) [
      | inl h ↦
          let m = map_some (hundredths true) (digits_of xs) depth h.1 in
          spelled (x ∷ xs) (45 ∷ []) xs true m.0 depth (ap (λ (c : ℕ). c ∷ xs) (eqb-true x 45 h.0)) refl (digits_of_found xs m.0 m.1) m.2
      | inr h ↦ plain_found x xs depth h.1
    ]

-- a text of digits and a point begins with neither sign
begins_otherwise : (x : ℕ) (xs whole decimals : List ℕ) (byte : ℕ) → is_ascii_digit byte ≡ false → eqb 46 byte ≡ false
    → HasDigits (x ∷ xs) whole decimals → eqb x byte ≡ false
begins_otherwise x xs [] decimals byte no_digit no_point h =
    elim h.parts [
      | inl p ↦ absurd (let empty = p.0 in cc)
      | inr p ↦ let first : x ≡ 46 = cc in ap (λ (c : ℕ). eqb c byte) first ∙ no_point
    ]
begins_otherwise x xs (w ∷ ws) decimals byte no_digit no_point h =
    let first : x ≡ w = elim h.parts [ inl p ↦ let e = p.0 in cc | inr p ↦ cc ] in
    let digit = and_parts (is_ascii_digit w) (all_ascii_digits ws) h.all_whole in
    false_from_ne_true _ (λ same. true≢false (sym digit.0 ∙ ap is_ascii_digit (sym first ∙ eqb-true x byte same) ∙ no_digit))

depth_of-unsigned : (text whole decimals : List ℕ) → HasDigits text whole decimals
    → depth_of text ≡ option_map (hundredths false) (digits_of text)
unfolding depth_of
depth_of-unsigned [] whole decimals h =
    elim h.parts [
      | inl p ↦ absurd (omega (arith, h.some_digit, ap length p.0, ap length p.1))
      | inr p ↦ absurd (omega (arith, ap length p, length-append whole (46 ∷ decimals)))
    ]
depth_of-unsigned (x ∷ xs) whole decimals h =
    rw (begins_otherwise x xs whole decimals 45 refl refl h, begins_otherwise x xs whole decimals 43 refl refl h) refl

-- the text behind the sign
unsigned_parts : (text sign whole decimals : List ℕ)
    → ((text ≡ sign ++ whole) × (decimals ≡ [])) ⊎ (text ≡ sign ++ whole ++ 46 ∷ decimals)
    → (rest : List ℕ) × (text ≡ sign ++ rest) × (((rest ≡ whole) × (decimals ≡ [])) ⊎ (rest ≡ whole ++ 46 ∷ decimals))
unsigned_parts text sign whole decimals (inl h) = (whole, h.0, inl (refl, h.1))
unsigned_parts text sign whole decimals (inr h) = (whole ++ 46 ∷ decimals, h ∙ append_assoc sign whole (46 ∷ decimals), inr refl)

again_from : (text sign rest : List ℕ) (negative : Bool) (whole decimals : List ℕ) → text ≡ sign ++ rest
    → SpellsSign negative sign → HasDigits rest whole decimals
    → depth_of text ≡ Some (hundredths negative (whole, decimals))
unfolding depth_of
again_from text sign rest true whole decimals e signed h =
    ap depth_of (e ∙ ap (λ (s : List ℕ). s ++ rest) signed) ∙ ap (option_map (hundredths true)) (digits_of_again rest whole decimals h)
again_from text sign rest false whole decimals e (inl signed) h =
    ap depth_of (e ∙ ap (λ (s : List ℕ). s ++ rest) signed) ∙ depth_of-unsigned rest whole decimals h ∙ ap (option_map (hundredths false)) (digits_of_again rest whole decimals h)
again_from text sign rest false whole decimals e (inr signed) h =
    ap depth_of (e ∙ ap (λ (s : List ℕ). s ++ rest) signed) ∙ ap (option_map (hundredths false)) (digits_of_again rest whole decimals h)

pub depth_of_again : (text : List ℕ) (depth : ℤ) → SpellsDepth text depth → depth_of text ≡ Some depth
depth_of_again text depth s =
    let u = unsigned_parts text s.sign s.whole s.decimals s.parts in
    let has : HasDigits u.0 s.whole s.decimals = record {
      all_whole = test_from_AllDigits s.whole s.whole_digits.0;
      short_whole = s.whole_digits.1;
      all_decimals = test_from_AllDigits s.decimals s.decimal_digits.0;
      short_decimals = s.decimal_digits.1;
      some_digit = s.some_digit;
      parts = u.2;
    } in
    again_from text s.sign u.0 s.negative s.whole s.decimals u.1 s.signed has
    ∙ ap (λ (z : ℤ). Some z) (floor_unique _ _ _ _ (rounds s.negative (s.whole, s.decimals)) s.rounded)

pub one_depth_of : (text : List ℕ) (a b : ℤ) → SpellsDepth text a → SpellsDepth text b → a ≡ b
one_depth_of text a b p q = some_is a b (sym (depth_of_again text a p) ∙ depth_of_again text b q)

-- an answer that is the function's, as what it says of the spellings
pub found_depth : (text : List ℕ) (answer : Option ℤ) → answer ≡ depth_of text → IfSome answer (SpellsDepth text)
found_depth text None e = tt
found_depth text (Some z) e = depth_of_found text z (sym e)

-- Formats, items and lists of items, read as they are spelled.
use Rattle.std.proofs.Common.{◌≡◌, ℕ, ◌+◌, ◌-◌, ◌<◌, ◌≤◌, ◌%◌, true, false, eqb, ◌&&◌, ◌||◌, List, [], ◌∷◌, ◌++◌, length, replicate, map, zero, suc, Some, refl, sym, ap, subst, ◌∙◌, inl, inr, arith, length-append}
use Rattle.std.proofs.lemmas.List.{length-replicate}
use Rattle.std.specs.Prelude.{codes}
use Rattle.std.specs.Char.{is_ascii_digit}
use Rattle.std.specs.Str.Parse.{IsNumeral, digits_value}
use Rattle.std.specs.List.{AllByRecursion, join_with_byte, slice_split}
use Rattle.std.proofs.lemmas.Bool.{eqb-true, and_parts, or_cases}
use Rattle.common_lemmas.proofs.Choices.{chosen, some_is}
use Rattle.common_lemmas.proofs.Digits.{test_from_AllDigits}
use Rattle.iso8211_formats.specs.declared.format.Format.{Format}
use Rattle.iso8211_formats.specs.declared.format.Format.TheVariants.{TextOpen, Text, Unsigned, Signed, Bits}
use Rattle.iso8211_formats.specs.Layout.{IsFormat, IsWidth, IsBinarySize}
use Rattle.iso8211_formats.specs.Grammar.{IsTextLetter, HasWidth, SpellsFormat, Item, IsItem, item_text, item_formats}
use Rattle.iso8211_formats.specs.Reading.{◌>>=◌, when, is_empty, cut_at, counting_number_of, count_of, digits_and_rest, is_text_letter, open_format, binary_format, format_with, sized_format, format_of, item_of, items_of}
use Rattle.iso8211_formats.proofs.GivenValues.{bind_some, guarded_some}
use Rattle.iso8211_formats.proofs.Cuts.{Lacks, Lacks-append, cut_at_found, cut_at_again}
use Rattle.iso8211_formats.proofs.Numbers.{counting_number_of_found, counting_number_of_again, digits_and_rest_found, digits_and_rest_again, count_of_found, count_of_again, SpellsCount-digits, Lacks-digits}

-- a format's text, and a format that it may spell
abbrev IsSpelled : List ℕ → Format → Type 0
IsSpelled text format = SpellsFormat format text × IsFormat format

IsTextLetter-from_test : (letter : ℕ) → is_text_letter letter ≡ true → IsTextLetter letter
IsTextLetter-from_test letter h =
    elim (or_cases (eqb letter 65) (eqb letter 73 || eqb letter 82) h) [
      | inl a ↦ inl (eqb-true letter 65 a)
      | inr others ↦
          elim (or_cases (eqb letter 73) (eqb letter 82) others) [
            | inl i ↦ inr (inl (eqb-true letter 73 i))
            | inr r ↦ inr (inr (eqb-true letter 82 r))
          ]
    ]

test_from_IsTextLetter : (letter : ℕ) → IsTextLetter letter → is_text_letter letter ≡ true
test_from_IsTextLetter letter (inl h) = rw h refl
test_from_IsTextLetter letter (inr (inl h)) = rw h refl
test_from_IsTextLetter letter (inr (inr h)) = rw h refl

open_format_found : (letter : ℕ) (format : Format) → open_format letter ≡ Some format → IsSpelled (letter ∷ []) format
unfolding open_format
open_format_found letter format e =
    let g = guarded_some (is_text_letter letter) TextOpen format e in
    elim (IsTextLetter-from_test letter g.0) [
      | inl a ↦ rw (← g.1, a) (inl refl, tt)
      | inr others ↦ elim others [
        | inl i ↦ rw (← g.1, i) (inr (inr (inl refl)), tt)
        | inr r ↦ rw (← g.1, r) (inr (inr (inr refl)), tt)
      ]
    ]

size_found : (digit size : ℕ) → (eqb digit 49 || (eqb digit 50 || eqb digit 52)) ≡ true → digit - 48 ≡ size → IsBinarySize size × (digit ≡ 48 + size)
size_found digit size test value =
    elim (or_cases (eqb digit 49) (eqb digit 50 || eqb digit 52) test) [
      | inl h ↦ let d = eqb-true digit 49 h in (inl (omega arith), omega arith)
      | inr others ↦ elim (or_cases (eqb digit 50) (eqb digit 52) others) [
        | inl h ↦ let d = eqb-true digit 50 h in (inr (inl (omega arith)), omega arith)
        | inr h ↦ let d = eqb-true digit 52 h in (inr (inr (omega arith)), omega arith)
      ]
    ]

binary_format_found : (sign digit : ℕ) (format : Format) → binary_format sign digit ≡ Some format → IsSpelled (98 ∷ sign ∷ digit ∷ []) format
unfolding binary_format
binary_format_found sign digit format e =
    let b = bind_some (when (eqb digit 49 || (eqb digit 50 || eqb digit 52)) (digit - 48)) _ format e in
    let g = guarded_some (eqb digit 49 || (eqb digit 50 || eqb digit 52)) (digit - 48) b.0 b.1 in
    let size = size_found digit b.0 g.0 g.1 in
    elim (chosen (eqb sign 49) (Some (Unsigned b.0)) (when (eqb sign 50) (Signed b.0)) (Some format) b.2) [
      | inl h ↦
          let text_is : 98 ∷ sign ∷ digit ∷ [] ≡ codes "b1" ++ (48 + b.0) ∷ [] = ap (λ (s : ℕ). 98 ∷ s ∷ digit ∷ []) (eqb-true sign 49 h.0) ∙ ap (λ (d : ℕ). 98 ∷ 49 ∷ d ∷ []) size.1 in
          subst (λ (f : Format). IsSpelled (98 ∷ sign ∷ digit ∷ []) f) (some_is (Unsigned b.0) format h.1) (text_is, size.0)
      | inr h ↦
          let s = guarded_some (eqb sign 50) (Signed b.0) format h.1 in
          let text_is : 98 ∷ sign ∷ digit ∷ [] ≡ codes "b2" ++ (48 + b.0) ∷ [] = ap (λ (k : ℕ). 98 ∷ k ∷ digit ∷ []) (eqb-true sign 50 s.0) ∙ ap (λ (d : ℕ). 98 ∷ 50 ∷ d ∷ []) size.1 in
          subst (λ (f : Format). IsSpelled (98 ∷ sign ∷ digit ∷ []) f) s.1 (text_is, size.0)
    ]

format_with_found : (letter width : ℕ) (inner digits : List ℕ) (format : Format) → counting_number_of digits ≡ Some width → inner ≡ digits ++ 41 ∷ [] → format_with letter width ≡ Some format → IsSpelled (letter ∷ 40 ∷ inner) format
unfolding format_with
format_with_found letter width inner digits format numbered whole e =
    let n = counting_number_of_found digits width numbered in
    let text_is : letter ∷ 40 ∷ inner ≡ letter ∷ 40 ∷ (digits ++ 41 ∷ []) = ap (λ (t : List ℕ). letter ∷ 40 ∷ t) whole in
    let has : HasWidth (letter ∷ 40 ∷ inner) letter width = record { digits = digits; numeral = n.0; value = n.1; whole = text_is } in
    elim (chosen (is_text_letter letter) (Some (Text width)) (when (eqb letter 66 && eqb (width % 8) 0) (Bits width)) (Some format) e) [
      | inl h ↦ subst (λ (f : Format). IsSpelled (letter ∷ 40 ∷ inner) f) (some_is (Text width) format h.1) ((letter, IsTextLetter-from_test letter h.0, has), (n.2, n.3))
      | inr h ↦
          let g = guarded_some (eqb letter 66 && eqb (width % 8) 0) (Bits width) format h.1 in
          let tests = and_parts (eqb letter 66) (eqb (width % 8) 0) g.0 in
          let b : letter ≡ 66 = eqb-true letter 66 tests.0 in
          let has_b : HasWidth (letter ∷ 40 ∷ inner) 66 width = subst (λ (l : ℕ). HasWidth (letter ∷ 40 ∷ inner) l width) b has in
          subst (λ (f : Format). IsSpelled (letter ∷ 40 ∷ inner) f) g.1 (has_b, ((n.2, n.3), eqb-true (width % 8) 0 tests.1))
    ]

is_empty_found : (xs : List ℕ) → is_empty xs ≡ true → xs ≡ []
is_empty_found [] e = refl
is_empty_found (x ∷ xs) e = absurd cc

sized_format_found : (letter : ℕ) (inner : List ℕ) (format : Format) → sized_format letter inner ≡ Some format → IsSpelled (letter ∷ 40 ∷ inner) format
unfolding sized_format
sized_format_found letter inner format e =
    let cut = bind_some (cut_at 41 inner) _ format e in
    let parts = cut.0 in
    let f = cut_at_found 41 inner parts cut.1 in
    let g = bind_some (when (is_empty parts.1) parts.0) _ format cut.2 in
    let closed = guarded_some (is_empty parts.1) parts.0 g.0 g.1 in
    let whole : inner ≡ g.0 ++ 41 ∷ [] =
    f.0 ∙ ap (λ (t : List ℕ). parts.0 ++ 41 ∷ t) (is_empty_found parts.1 closed.0) ∙ ap (λ (t : List ℕ). t ++ 41 ∷ []) closed.1
    in
    elim (chosen (is_empty g.0) (when (eqb letter 65) TextOpen) (counting_number_of g.0 >>= format_with letter) (Some format) g.2) [
      | inl h ↦
          let t = guarded_some (eqb letter 65) TextOpen format h.1 in
          let a : letter ≡ 65 = eqb-true letter 65 t.0 in
          let inner_is : inner ≡ 41 ∷ [] = whole ∙ ap (λ (t : List ℕ). t ++ 41 ∷ []) (is_empty_found g.0 h.0) in
          let text_is : letter ∷ 40 ∷ inner ≡ codes "A()" = ap (λ (l : ℕ). l ∷ 40 ∷ inner) a ∙ ap (λ (t : List ℕ). 65 ∷ 40 ∷ t) inner_is in
          subst (λ (f : Format). IsSpelled (letter ∷ 40 ∷ inner) f) t.1 (inr (inl text_is), tt)
      | inr h ↦
          let n = bind_some (counting_number_of g.0) (format_with letter) format h.1 in
          format_with_found letter n.0 inner g.0 format n.1 whole n.2
    ]

pub format_of_found : (text : List ℕ) (format : Format) → format_of text ≡ Some format → SpellsFormat format text × IsFormat format
unfolding format_of
format_of_found [] format e = absurd cc
format_of_found (letter ∷ []) format e = open_format_found letter format e
format_of_found (letter ∷ second ∷ []) format e = absurd cc
format_of_found (letter ∷ second ∷ third ∷ rest) format e =
    elim (chosen (eqb second 40) (sized_format letter (third ∷ rest)) (when (eqb letter 98 && is_empty rest) third >>= binary_format second) (Some format) e) [
      | inl h ↦ rw (eqb-true second 40 h.0) (sized_format_found letter (third ∷ rest) format h.1)
      | inr h ↦
          let b = bind_some (when (eqb letter 98 && is_empty rest) third) (binary_format second) format h.1 in
          let g = guarded_some (eqb letter 98 && is_empty rest) third b.0 b.1 in
          let tests = and_parts (eqb letter 98) (is_empty rest) g.0 in
          rw (eqb-true letter 98 tests.0, is_empty_found rest tests.1, g.1) (binary_format_found second b.0 format b.2)
    ]

-- ---- and back

sized_format_again : (letter width : ℕ) (digits : List ℕ) (format : Format) → IsNumeral 10 digits → digits_value 10 digits ≡ width → IsWidth width → format_with letter width ≡ Some format → sized_format letter (digits ++ 41 ∷ []) ≡ Some format
unfolding sized_format
sized_format_again letter width [] format numeral value range with_width = let none : 0 < 0 = numeral.0 in absurd (omega arith)
sized_format_again letter width (d ∷ ds) format numeral value range with_width =
    let cut = cut_at_again 41 (d ∷ ds) [] (Lacks-digits 41 (d ∷ ds) refl (test_from_AllDigits (d ∷ ds) numeral.1)) in
    rw (cut, counting_number_of_again (d ∷ ds) width numeral.1 value range.0 range.1) with_width

sized_text_again : (letter width : ℕ) (digits : List ℕ) (format : Format) → IsNumeral 10 digits → digits_value 10 digits ≡ width → IsWidth width → format_with letter width ≡ Some format → format_of (letter ∷ 40 ∷ (digits ++ 41 ∷ [])) ≡ Some format
unfolding format_of
sized_text_again letter width [] format numeral value range with_width = let none : 0 < 0 = numeral.0 in absurd (omega arith)
sized_text_again letter width (d ∷ ds) format numeral value range with_width = sized_format_again letter width (d ∷ ds) format numeral value range with_width

has_width_again : (text : List ℕ) (letter width : ℕ) (format : Format) → HasWidth text letter width → IsWidth width → format_with letter width ≡ Some format → format_of text ≡ Some format
has_width_again text letter width format has range with_width =
    ap format_of has.whole ∙ sized_text_again letter width has.digits format has.numeral has.value range with_width

pub format_of_again : (text : List ℕ) (format : Format) → SpellsFormat format text → IsFormat format → format_of text ≡ Some format
unfolding format_of open_format sized_format binary_format format_with cut_at
format_of_again text TextOpen (inl h) is_format = rw h refl
format_of_again text TextOpen (inr (inl h)) is_format = rw h refl
format_of_again text TextOpen (inr (inr (inl h))) is_format = rw h refl
format_of_again text TextOpen (inr (inr (inr h))) is_format = rw h refl
format_of_again text (Text width) (letter, is_letter, has) is_format =
    has_width_again text letter width (Text width) has is_format (rw (test_from_IsTextLetter letter is_letter) refl)
format_of_again text (Unsigned size) h (inl s) = rw (h, s) refl
format_of_again text (Unsigned size) h (inr (inl s)) = rw (h, s) refl
format_of_again text (Unsigned size) h (inr (inr s)) = rw (h, s) refl
format_of_again text (Signed size) h (inl s) = rw (h, s) refl
format_of_again text (Signed size) h (inr (inl s)) = rw (h, s) refl
format_of_again text (Signed size) h (inr (inr s)) = rw (h, s) refl
format_of_again text (Bits width) has is_format =
    has_width_again text 66 width (Bits width) has is_format.0 (rw is_format.1 refl)

-- a format's text begins with a letter and has no comma
pub StartsOther : List ℕ → Type 0
StartsOther text = (x : ℕ) × (xs : List ℕ) × (text ≡ x ∷ xs) × (is_ascii_digit x ≡ false)

pub format_text_starts : (text : List ℕ) (format : Format) → SpellsFormat format text → StartsOther text
unfolding StartsOther
format_text_starts text TextOpen (inl h) = (65, [], h, refl)
format_text_starts text TextOpen (inr (inl h)) = (65, 40 ∷ 41 ∷ [], h, refl)
format_text_starts text TextOpen (inr (inr (inl h))) = (73, [], h, refl)
format_text_starts text TextOpen (inr (inr (inr h))) = (82, [], h, refl)
format_text_starts text (Text width) (letter, (inl l), has) = (letter, _, has.whole, rw l refl)
format_text_starts text (Text width) (letter, (inr (inl l)), has) = (letter, _, has.whole, rw l refl)
format_text_starts text (Text width) (letter, (inr (inr l)), has) = (letter, _, has.whole, rw l refl)
format_text_starts text (Unsigned size) h = (98, _, h, refl)
format_text_starts text (Signed size) h = (98, _, h, refl)
format_text_starts text (Bits width) has = (66, _, has.whole, refl)

width_text_lacks : (text : List ℕ) (letter width : ℕ) → eqb letter 44 ≡ false → HasWidth text letter width → Lacks 44 text
width_text_lacks text letter width other has =
    let digits_lack = Lacks-digits 44 has.digits refl (test_from_AllDigits has.digits has.numeral.1) in
    let whole : Lacks 44 (letter ∷ 40 ∷ (has.digits ++ 41 ∷ [])) = (other, (refl, Lacks-append 44 has.digits (41 ∷ []) digits_lack (refl, tt))) in
    subst (λ (t : List ℕ). Lacks 44 t) (sym has.whole) whole

binary_text_lacks : (text : List ℕ) (kind size : ℕ) → eqb kind 44 ≡ false → IsBinarySize size → text ≡ 98 ∷ kind ∷ (48 + size) ∷ [] → Lacks 44 text
binary_text_lacks text kind size other (inl s) h = rw (h, s) (refl, (other, (refl, tt)))
binary_text_lacks text kind size other (inr (inl s)) h = rw (h, s) (refl, (other, (refl, tt)))
binary_text_lacks text kind size other (inr (inr s)) h = rw (h, s) (refl, (other, (refl, tt)))

format_text_lacks : (text : List ℕ) (format : Format) → SpellsFormat format text → IsFormat format → Lacks 44 text
format_text_lacks text TextOpen (inl h) is_format = rw h (refl, tt)
format_text_lacks text TextOpen (inr (inl h)) is_format = rw h (refl, (refl, (refl, tt)))
format_text_lacks text TextOpen (inr (inr (inl h))) is_format = rw h (refl, tt)
format_text_lacks text TextOpen (inr (inr (inr h))) is_format = rw h (refl, tt)
format_text_lacks text (Text width) (letter, (inl l), has) is_format = width_text_lacks text letter width (rw l refl) has
format_text_lacks text (Text width) (letter, (inr (inl l)), has) is_format = width_text_lacks text letter width (rw l refl) has
format_text_lacks text (Text width) (letter, (inr (inr l)), has) is_format = width_text_lacks text letter width (rw l refl) has
format_text_lacks text (Unsigned size) h is_format = binary_text_lacks text 49 size refl is_format h
format_text_lacks text (Signed size) h is_format = binary_text_lacks text 50 size refl is_format h
format_text_lacks text (Bits width) has is_format = width_text_lacks text 66 width refl has

-- ---- items

pub item_of_found : (text : List ℕ) (formats : List Format) → item_of text ≡ Some formats → (item : Item) × IsItem item × (item_text item ≡ text) × (formats ≡ replicate item.count item.format)
unfolding item_of
item_of_found text formats e =
    let parts = digits_and_rest text in
    let c = bind_some (count_of parts.0) _ formats e in
    let f = bind_some (format_of parts.1) _ formats c.2 in
    let format = format_of_found parts.1 f.0 f.1 in
    let item : Item = record { count_text = parts.0; count = c.0; format_text = parts.1; format = f.0 } in
    (item, record { counted = count_of_found parts.0 c.0 c.1; spelled = format.0; is_format = format.1 }, sym (digits_and_rest_found text).0, sym (some_is (replicate c.0 f.0) formats f.2))

pub item_of_again : (item : Item) → IsItem item → item.count ≤ 99999 → item_of (item_text item) ≡ Some (replicate item.count item.format)
unfolding item_of StartsOther
item_of_again item is high =
    let starts = format_text_starts item.format_text item.format is.spelled in
    let again = digits_and_rest_again item.count_text starts.0 starts.1 (SpellsCount-digits item.count_text item.count is.counted) starts.3 in
    let parts : digits_and_rest (item_text item) ≡ (item.count_text, item.format_text) =
    ap (λ (t : List ℕ). digits_and_rest (item.count_text ++ t)) starts.2 ∙ again ∙ ap (λ (t : List ℕ). (item.count_text, t)) (sym starts.2)
    in
    rw (parts, count_of_again item.count_text item.count is.counted high, format_of_again item.format_text item.format is.spelled is.is_format) refl

pub item_text_lacks : (item : Item) → IsItem item → Lacks 44 (item_text item)
item_text_lacks item is =
    Lacks-append 44 item.count_text item.format_text (Lacks-digits 44 item.count_text refl (SpellsCount-digits item.count_text item.count is.counted)) (format_text_lacks item.format_text item.format is.spelled is.is_format)

pub items_of_found : (texts : List (List ℕ)) (formats : List Format) → items_of texts ≡ Some formats → (items : List Item) × AllByRecursion IsItem items × (map item_text items ≡ texts) × (formats ≡ item_formats items)
unfolding items_of
items_of_found [] formats e = ([], tt, refl, sym (some_is [] formats e))
items_of_found (text ∷ texts) formats e =
    let first = bind_some (item_of text) _ formats e in
    let rest = bind_some (items_of texts) _ formats first.2 in
    let f = item_of_found text first.0 first.1 in
    let r = items_of_found texts rest.0 rest.1 in
    (f.0 ∷ r.0, (f.1, r.1), ap (λ (t : List ℕ). t ∷ map item_text r.0) f.2 ∙ ap (λ (ts : List (List ℕ)). text ∷ ts) r.2, sym (some_is (first.0 ++ rest.0) formats rest.2) ∙ ap (λ (fs : List Format). fs ++ rest.0) f.3 ∙ ap (λ (fs : List Format). replicate f.0.count f.0.format ++ fs) r.3)

pub items_of_again : (items : List Item) → AllByRecursion IsItem items → length (item_formats items) ≤ 99999 → items_of (map item_text items) ≡ Some (item_formats items)
unfolding items_of
items_of_again [] each few = refl
items_of_again (item ∷ items) each few =
    let parts : item.count + length (item_formats items) ≤ 99999 = omega (arith, few, length-append (replicate item.count item.format) (item_formats items), length-replicate item.count item.format) in
    rw (item_of_again item each.0 (omega arith), items_of_again items each.1 (omega arith)) refl

-- the formats that stand in items are formats with their widths
formats_replicate : (count : ℕ) (format : Format) → IsFormat format → AllByRecursion IsFormat (replicate count format)
formats_replicate zero format is_format = tt
formats_replicate (suc n) format is_format = (is_format, formats_replicate n format is_format)

formats_append : (xs ys : List Format) → AllByRecursion IsFormat xs → AllByRecursion IsFormat ys → AllByRecursion IsFormat (xs ++ ys)
formats_append [] ys p q = q
formats_append (x ∷ xs) ys p q = (p.0, formats_append xs ys p.1 q)

pub formats_of_items : (items : List Item) → AllByRecursion IsItem items → AllByRecursion IsFormat (item_formats items)
formats_of_items [] each = tt
formats_of_items (item ∷ items) each = formats_append (replicate item.count item.format) (item_formats items) (formats_replicate item.count item.format each.0.is_format) (formats_of_items items each.1)

-- ---- the texts of items, cut at their commas

pub onto_front : (text : List ℕ) (rest : List ℕ) → Lacks 44 text → slice_split (λ b. eqb b 44) (text ++ 44 ∷ rest) ≡ text ∷ slice_split (λ b. eqb b 44) rest
onto_front [] rest lacks = refl
onto_front (x ∷ text) rest lacks = rw (lacks.0, onto_front text rest lacks.1) refl

pub whole_part : (text : List ℕ) → Lacks 44 text → slice_split (λ b. eqb b 44) text ≡ text ∷ []
whole_part [] lacks = refl
whole_part (x ∷ text) lacks = rw (lacks.0, whole_part text lacks.1) refl

pub slice_split-items : (item : Item) (items : List Item) → IsItem item → AllByRecursion IsItem items → slice_split (λ b. eqb b 44) (join_with_byte 44 (map item_text (item ∷ items))) ≡ map item_text (item ∷ items)
slice_split-items item [] is each = whole_part (item_text item) (item_text_lacks item is)
slice_split-items item (next ∷ items) is each =
    onto_front (item_text item) (join_with_byte 44 (map item_text (next ∷ items))) (item_text_lacks item is) ∙ ap (λ (ts : List (List ℕ)). item_text item ∷ ts) (slice_split-items next items each.0 each.1)

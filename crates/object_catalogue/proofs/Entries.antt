-- A line is an entry as it is spelled.
use Rattle.std.proofs.Common.{◌≡◌, ◌≢◌, ℕ, ◌≤◌, Bool, true, false, cond, ◌&&◌, List, [], ◌∷◌, Option, Some, None, refl, sym, ap, ◌∙◌, subst, arith}
use Rattle.std.specs.Bool.{Decides}
use Rattle.std.specs.Prelude.{codes, nat_le, IsTrue, option_and_then, is_none, not}
use Rattle.std.specs.List.{join_with_byte}
use Rattle.std.specs.Str.{bytes_eq}
use Rattle.std.proofs.lemmas.Bool.{leb-true, and_parts, true≢false, false_from_ne_true}
use Rattle.std.proofs.lemmas.Bool.Decides.{nat_tests}
use Rattle.std.proofs.lemmas.List.Elements.{All-nil, All-cons}
use Rattle.std.proofs.lemmas.Slice.Eq.{bytes_eq-Decides}
use Rattle.common_lemmas.proofs.Choices.{some_is}
use Rattle.text_scan.specs.Number.{IsNumber, value_of, number_of}
use Rattle.text_lines.specs.Lines.{IsSilent, is_silent, parts_at, Lacks}
use Rattle.object_catalogue.specs.declared.entry.Kind.{Kind}
use Rattle.object_catalogue.specs.declared.entry.Kind.TheVariants.{Class, Attribute}
use Rattle.object_catalogue.specs.declared.entry.Entry.{Entry}
use Rattle.object_catalogue.specs.Acronym.{IsAcronym, is_acronym, acronym_of}
use Rattle.object_catalogue.specs.Entry.{letter_of, Spells, IsBad, kind_of, in_range, code_of, entry_with, entry_in, entry_of}
use Rattle.object_catalogue.specs.Reading.{is_bad}
use Rattle.object_catalogue.proofs.Acronyms.{Decides-acronym, acronym_some, acronym_lacks}
use Rattle.text_scan.proofs.Numbers.{NumbersAreSpelled}
use Rattle.text_lines.proofs.Parting.{PartsAreFound, PartsAreJoined, digits_lack}

-- ---- kinds

kind_is : (word : List ℕ) (kind : Kind) → kind_of word ≡ Some kind → word ≡ letter_of kind
kind_is word kind e =
    elim (bytes_eq word (codes "O")) as (λ b. bytes_eq word (codes "O") ≡ b → cond b (Some Class) (cond (bytes_eq word (codes "A")) (Some Attribute) None) ≡ Some kind → word ≡ letter_of kind) [
      | true ↦ λ h f. (bytes_eq-Decides word (codes "O")).0 h ∙ ap letter_of (some_is Class kind f)
      | false ↦ λ h f.
          elim (bytes_eq word (codes "A")) as (λ b. bytes_eq word (codes "A") ≡ b → cond b (Some Attribute) None ≡ Some kind → word ≡ letter_of kind) [
            | true ↦ λ k g. (bytes_eq-Decides word (codes "A")).0 k ∙ ap letter_of (some_is Attribute kind g)
            | false ↦ λ k g. absurd cc
          ] refl f
    ] refl e

kind_told : (kind : Kind) → kind_of (letter_of kind) ≡ Some kind
kind_told Class = refl
kind_told Attribute = refl

letter_lacks : (kind : Kind) → Lacks 32 (letter_of kind)
letter_lacks Class = All-cons (λ b. b ≢ 32) 79 [] (omega arith) (All-nil (λ b. b ≢ 32))
letter_lacks Attribute = All-cons (λ b. b ≢ 32) 65 [] (omega arith) (All-nil (λ b. b ≢ 32))

-- ---- codes

range_is : (n code : ℕ) → in_range n ≡ Some code → (n ≡ code) × (1 ≤ code) × (code ≤ 65535)
range_is n code e =
    elim (nat_le 1 n && nat_le n 65535) as (λ b. (nat_le 1 n && nat_le n 65535) ≡ b → cond b (Some n) None ≡ Some code → (n ≡ code) × (1 ≤ code) × (code ≤ 65535)) [
      | true ↦ λ h f.
          let same = some_is n code f in
          let p = and_parts (nat_le 1 n) (nat_le n 65535) h in
          let low = leb-true 1 n p.0 in
          let high = leb-true n 65535 p.1 in
          (same, omega arith, omega arith)
      | false ↦ λ h f. absurd cc
    ] refl e

range_told : (n : ℕ) → 1 ≤ n → n ≤ 65535 → in_range n ≡ Some n
range_told n low high = grind (arith, nat_tests)

code_is : NumbersAreSpelled → (digits : List ℕ) (code : ℕ) → code_of digits ≡ Some code → IsNumber digits × (code ≡ value_of digits) × ((1 ≤ code) × (code ≤ 65535))
code_is spelled digits code e = by (number_of digits) refl e
  where
    by : (o : Option ℕ) → number_of digits ≡ o → option_and_then in_range o ≡ Some code → IsNumber digits × (code ≡ value_of digits) × ((1 ≤ code) × (code ≤ 65535))
    by None is e = absurd cc
    by (Some n) is e =
        let number = (spelled digits n).0 is in
        let range = range_is n code e in
        (number.0, sym (number.1 ∙ range.0), (range.1, range.2))

code_told : NumbersAreSpelled → (digits : List ℕ) (code : ℕ) → IsNumber digits → code ≡ value_of digits → 1 ≤ code → code ≤ 65535 → code_of digits ≡ Some code
code_told spelled digits code number value low high =
    ap (option_and_then in_range) ((spelled digits code).1 (number, sym value)) ∙ range_told code low high

acronym_is : (text acronym : List ℕ) → acronym_of text ≡ Some acronym → (text ≡ acronym) × IsAcronym acronym
acronym_is text acronym e =
    elim (is_acronym text) as (λ b. is_acronym text ≡ b → cond b (Some text) None ≡ Some acronym → (text ≡ acronym) × IsAcronym acronym) [
      | true ↦ λ h f.
          let same = some_is text acronym f in
          (same, subst IsAcronym same ((Decides-acronym text).0 h))
      | false ↦ λ h f. absurd cc
    ] refl e

-- ---- entries

-- the parts of an entry that is there
pub record Made (word digits acronym : List ℕ) (entry : Entry) : Type 0 where
  pub kind : kind_of word ≡ Some entry.kind
  pub code : code_of digits ≡ Some entry.code
  pub acronym_there : acronym_of acronym ≡ Some entry.acronym

made : (word digits acronym : List ℕ) (entry : Entry) → entry_with (kind_of word) (code_of digits) (acronym_of acronym) ≡ Some entry → Made word digits acronym entry
made word digits acronym entry e = by (kind_of word) refl (code_of digits) refl (acronym_of acronym) refl e
  where
    by : (k : Option Kind) → kind_of word ≡ k → (n : Option ℕ) → code_of digits ≡ n → (a : Option (List ℕ)) → acronym_of acronym ≡ a
        → entry_with k n a ≡ Some entry → Made word digits acronym entry
    by (Some k) ek (Some n) en (Some a) ea e =
        let same : ◌≡◌ {A = Entry} (record { kind = k; code = n; acronym = a }) entry = some_is _ _ e in
        record {
          kind = ek ∙ ap (λ (x : Entry). Some x.kind) same;
          code = en ∙ ap (λ (x : Entry). Some x.code) same;
          acronym_there = ea ∙ ap (λ (x : Entry). Some x.acronym) same;
        }
    by (Some k) ek (Some n) en None ea e = absurd cc
    by (Some k) ek None en a ea e = absurd cc
    by None ek n en a ea e = absurd cc

words_is : NumbersAreSpelled → (line word digits acronym : List ℕ) (entry : Entry) → line ≡ join_with_byte 32 (word ∷ digits ∷ acronym ∷ [])
    → Made word digits acronym entry → Spells line entry
words_is spelled line word digits acronym entry parted m =
    let k = kind_is word entry.kind m.kind in
    let n = code_is spelled digits entry.code m.code in
    let a = acronym_is acronym entry.acronym m.acronym_there in
    record {
      digits = digits;
      parted = parted ∙ (λ i. join_with_byte 32 (k i ∷ digits ∷ a.0 i ∷ []));
      number = n.0;
      value = n.1;
      range = n.2;
      acronym = a.1;
    }

in_words : NumbersAreSpelled → (line : List ℕ) (words : List (List ℕ)) (entry : Entry) → line ≡ join_with_byte 32 words → entry_in words ≡ Some entry → Spells line entry
unfolding entry_in
in_words spelled line [] entry parted e = absurd cc
in_words spelled line (word ∷ []) entry parted e = absurd cc
in_words spelled line (word ∷ digits ∷ []) entry parted e = absurd cc
in_words spelled line (word ∷ digits ∷ acronym ∷ []) entry parted e = words_is spelled line word digits acronym entry parted (made word digits acronym entry e)
in_words spelled line (word ∷ digits ∷ acronym ∷ other ∷ more) entry parted e = absurd cc

pub entry_spelled : NumbersAreSpelled → PartsAreJoined → (line : List ℕ) (entry : Entry) → entry_of line ≡ Some entry → Spells line entry
entry_spelled spelled joined line entry e = in_words spelled line (parts_at 32 line) entry (sym (joined 32 line)) e

three : (kind : Kind) (digits acronym : List ℕ) (code : ℕ) → code_of digits ≡ Some code → IsAcronym acronym
    → entry_in (letter_of kind ∷ digits ∷ acronym ∷ []) ≡ Some (record { kind = kind; code = code; acronym = acronym })
unfolding entry_in
three kind digits acronym code n a = λ i. entry_with (kind_told kind i) (n i) (acronym_some acronym a i)

pub spelled_entry : NumbersAreSpelled → PartsAreFound → (line : List ℕ) (entry : Entry) → Spells line entry → entry_of line ≡ Some entry
spelled_entry spelled found line entry s =
    ap entry_of s.parted
    ∙ ap entry_in (found 32 (letter_of entry.kind) (s.digits ∷ entry.acronym ∷ [])
    (All-cons (Lacks 32) (letter_of entry.kind) (s.digits ∷ entry.acronym ∷ []) (letter_lacks entry.kind)
    (All-cons (Lacks 32) s.digits (entry.acronym ∷ []) (digits_lack s.digits s.number.0.1)
    (All-cons (Lacks 32) entry.acronym [] (acronym_lacks entry.acronym s.acronym) (All-nil (Lacks 32))))))
    ∙ three entry.kind s.digits entry.acronym entry.code (code_told spelled s.digits entry.code s.number s.value s.range.0 s.range.1) s.acronym

-- ---- bad lines

silent_tests : (line : List ℕ) → Decides (is_silent line) (IsSilent line)
silent_tests [] = (λ _. tt, λ _. refl)
silent_tests (first ∷ rest) = (λ h. grind (arith, nat_tests), λ h. grind (arith, nat_tests))

refuted : (a b : Bool) → not a ≡ true → a ≡ true → ⊥
refuted true b h k = true≢false (sym h)
refuted false b h k = true≢false (sym k)

none_refuted : (o : Option Entry) (entry : Entry) → is_none o ≡ true → o ≡ Some entry → ⊥
none_refuted None entry h e = cc
none_refuted (Some x) entry h e = true≢false (sym h)

pub bad-to : NumbersAreSpelled → PartsAreFound → (line : List ℕ) → IsTrue (is_bad line) → IsBad line
bad-to spelled found line h =
    let p = and_parts (not (is_silent line)) (is_none (entry_of line)) h in
    record {
      speaks = λ s. refuted (is_silent line) true p.0 ((silent_tests line).1 s);
      no_entry = λ entry s. none_refuted (entry_of line) entry p.1 (spelled_entry spelled found line entry s);
    }

none_told : (o : Option Entry) → ((entry : Entry) → o ≢ Some entry) → is_none o ≡ true
none_told None h = refl
none_told (Some x) h = absurd (h x refl)

both_true : (a b : Bool) → a ≡ false → b ≡ true → (not a && b) ≡ true
both_true a b h k = λ i. not (h i) && k i

pub bad-from : NumbersAreSpelled → PartsAreJoined → (line : List ℕ) → IsBad line → IsTrue (is_bad line)
bad-from spelled joined line h =
    both_true (is_silent line) (is_none (entry_of line))
    (false_from_ne_true (is_silent line) (λ t. h.speaks ((silent_tests line).0 t)))
    (none_told (entry_of line) (λ entry e. h.no_entry entry (entry_spelled spelled joined line entry e)))

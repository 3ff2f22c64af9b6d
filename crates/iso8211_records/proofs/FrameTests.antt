-- The tests of leaders and entries say whether a text is one.
use Rattle.std.proofs.Common.{◌≡◌, ℕ, zero, suc, ◌+◌, ◌≤◌, Bool, true, false, List, [], ◌∷◌, length, get_or, take, drop, refl, sym, ◌∙◌, suc-add, arith, eqb, leb, not}
use Rattle.std.specs.Prelude.{◌&&◌, ◌||◌, slice_index}
use Rattle.std.specs.List.{list_all, slice_range}
use Rattle.std.specs.Char.{is_ascii_digit}
use Rattle.std.specs.Int.{IsInRange, is_in_range}
use Rattle.std.proofs.lemmas.Bool.Decides.{nat_tests}
use Rattle.std.specs.Str.Parse.{digits_value}
use Rattle.iso8211_leader.specs.Digits.{AreDigits}
use Rattle.iso8211_leader.specs.Leader.{Frame, HasLeader, identifier, length_digits, base_digits}
use Rattle.iso8211_leader.specs.Entry.{IsEntry, entry_size, field_length, field_position}
use Rattle.iso8211_records.specs.Frames.{is_leader, is_entry}
use Rattle.iso8211_records.proofs.PassedTests.{both_parts, both, le-test, le-is, eq-test, eq-is}

pub is_entry-is : (frame : Frame) (text : List ℕ) → is_entry frame text ≡ true → IsEntry frame text
unfolding is_entry AreDigits
is_entry-is frame text h =
    let p = both_parts (eqb (length text) (entry_size frame) && list_all is_ascii_digit (field_length frame text)) (list_all is_ascii_digit (field_position frame text)) h in
    let q = both_parts (eqb (length text) (entry_size frame)) (list_all is_ascii_digit (field_length frame text)) p.0 in
    record { whole = eq-is _ _ q.0; length_in_digits = q.1; position_in_digits = p.1 }

pub is_entry-from : (frame : Frame) (text : List ℕ) → IsEntry frame text → is_entry frame text ≡ true
unfolding is_entry AreDigits
is_entry-from frame text h = both _ _ (both _ _ (eq-test _ _ h.whole) h.length_in_digits) h.position_in_digits

-- two bytes of a text, and as a list
two_bytes : (text : List ℕ) (i : ℕ) → i + 2 ≤ length text → take 2 (drop i text) ≡ get_or text i 0 ∷ get_or text (i + 1) 0 ∷ []
two_bytes [] i inside = absurd (omega arith)
two_bytes (a ∷ []) zero inside = absurd (omega arith)
two_bytes (a ∷ b ∷ text) zero inside = refl
two_bytes (a ∷ text) (suc i) inside = two_bytes text i (omega arith) ∙ rw (suc-add) refl

control_from : (first : Bool) (text : List ℕ) → length text ≡ 24 → (not first || (eqb (get_or text 10 0) 48 && eqb (get_or text 11 0) 57)) ≡ true → first ≡ true → slice_range text 10 12 ≡ 48 ∷ 57 ∷ []
control_from false text whole h is = absurd cc
control_from true text whole h is =
    let p = both_parts (eqb (get_or text 10 0) 48) (eqb (get_or text 11 0) 57) h in
    two_bytes text 10 (omega arith) ∙ rw (eq-is _ _ p.0, eq-is _ _ p.1) refl

control_test : (first : Bool) (text : List ℕ) → length text ≡ 24 → (first ≡ true → slice_range text 10 12 ≡ 48 ∷ 57 ∷ []) → (not first || (eqb (get_or text 10 0) 48 && eqb (get_or text 11 0) 57)) ≡ true
control_test false text whole h = refl
control_test true text whole h =
    let e : get_or text 10 0 ∷ get_or text 11 0 ∷ [] ≡ 48 ∷ 57 ∷ [] = sym (two_bytes text 10 (omega arith)) ∙ h refl in
    let a : get_or text 10 0 ≡ 48 = cc in
    let b : get_or text 11 0 ≡ 57 = cc in
    both _ _ (eq-test _ _ a) (eq-test _ _ b)

-- a number between two others
in_range-is : (low high n : ℕ) → is_in_range low high n ≡ true → IsInRange low high n
in_range-is low high n h = grind (arith, nat_tests)

in_range-from : (low high n : ℕ) → IsInRange low high n → is_in_range low high n ≡ true
in_range-from low high n h = grind (arith, nat_tests)

-- ten tests one after the other
record AllTen (a b c d e f g h i j : Bool) : Type 0 where
  first : a ≡ true
  second : b ≡ true
  third : c ≡ true
  fourth : d ≡ true
  fifth : e ≡ true
  sixth : f ≡ true
  seventh : g ≡ true
  eighth : h ≡ true
  ninth : i ≡ true
  tenth : j ≡ true

ten_parts : (a b c d e f g h i j : Bool) → (a && b && c && d && e && f && g && h && i && j) ≡ true → AllTen a b c d e f g h i j
ten_parts a b c d e f g h i j t =
    let p = both_parts (a && b && c && d && e && f && g && h && i) j t in
    let q = both_parts (a && b && c && d && e && f && g && h) i p.0 in
    let r = both_parts (a && b && c && d && e && f && g) h q.0 in
    let s = both_parts (a && b && c && d && e && f) g r.0 in
    let u = both_parts (a && b && c && d && e) f s.0 in
    let v = both_parts (a && b && c && d) e u.0 in
    let w = both_parts (a && b && c) d v.0 in
    let x = both_parts (a && b) c w.0 in
    let y = both_parts a b x.0 in
    record { first = y.0; second = y.1; third = x.1; fourth = w.1; fifth = v.1; sixth = u.1; seventh = s.1; eighth = r.1; ninth = q.1; tenth = p.1 }

pub is_leader-is : (first : Bool) (text : List ℕ) → is_leader first text ≡ true → HasLeader first text
unfolding is_leader AreDigits
is_leader-is first text h =
    let p = ten_parts
    (eqb (length text) 24) (list_all is_ascii_digit (length_digits text)) (eqb (slice_index text 6) (identifier first))
    (not first || (eqb (slice_index text 10) 48 && eqb (slice_index text 11) 57)) (list_all is_ascii_digit (base_digits text))
    (leb 25 (digits_value 10 (base_digits text))) (leb (digits_value 10 (base_digits text)) (digits_value 10 (length_digits text)))
    (is_in_range 49 57 (slice_index text 20)) (is_in_range 49 57 (slice_index text 21)) (eqb (slice_index text 23) 52) h in
    record {
      whole = eq-is _ _ p.first;
      length_in_digits = p.second;
      kind = eq-is _ _ p.third;
      control_length = control_from first text (eq-is _ _ p.first) p.fourth;
      base_in_digits = p.fifth;
      directory = le-is _ _ p.sixth;
      field_area = le-is _ _ p.seventh;
      size_of_length = in_range-is 49 57 _ p.eighth;
      size_of_position = in_range-is 49 57 _ p.ninth;
      size_of_tag = eq-is _ _ p.tenth;
    }

pub is_leader-from : (first : Bool) (text : List ℕ) → HasLeader first text → is_leader first text ≡ true
unfolding is_leader AreDigits
is_leader-from first text h =
    both _ _ (both _ _ (both _ _ (both _ _ (both _ _ (both _ _ (both _ _ (both _ _ (both _ _
    (eq-test _ _ h.whole)
    h.length_in_digits)
    (eq-test _ _ h.kind))
    (control_test first text h.whole h.control_length))
    h.base_in_digits)
    (le-test _ _ h.directory))
    (le-test _ _ h.field_area))
    (in_range-from 49 57 _ h.size_of_length))
    (in_range-from 49 57 _ h.size_of_position))
    (eq-test _ _ h.size_of_tag)

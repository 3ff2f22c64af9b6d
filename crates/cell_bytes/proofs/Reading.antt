-- A record that is written is a record that is read: its leader, its directory and its fields.
use Rattle.std.proofs.Common.{◌≡◌, ℕ, zero, suc, ◌+◌, ◌-◌, ◌/◌, ◌%◌, ◌^◌, ◌<◌, ◌≤◌, true, false, List, [], ◌∷◌, ◌++◌, length, take, drop, get_or, refl, sym, ap, subst, ◌∙◌, arith, append_assoc, append-nil, length-append, map, lit≤}
use Rattle.std.specs.Char.{is_ascii_digit, digit_value}
use Rattle.std.specs.List.{AllByRecursion, slice_range}
use Rattle.std.specs.Str.Parse.{digits_value}
use Rattle.std.proofs.lemmas.List.{take_at, drop_at, drop-drop, get_or_at}
use Rattle.std.proofs.lemmas.Bool.{false≢true}
use Rattle.std.proofs.lemmas.Bool.Decides.{nat_tests}
use Rattle.chart_model.specs.Codes.{FIELD_TERMINATOR}
use Rattle.iso8211_leader.specs.Digits.{AreDigits}
use Rattle.iso8211_leader.specs.Leader.{Frame, HasLeader, frame_of}
use Rattle.iso8211_leader.specs.Entry.{IsEntry, entry_of}
use Rattle.iso8211_leader.specs.declared.entry.Entry.{Entry}
use Rattle.iso8211_records.specs.Record.{IsDirectory, IsEnded, IsInside, field_bytes}
use Rattle.cell_bytes.specs.Framing.{HasFields}
use Rattle.cell_bytes.specs.Record.{Field, base_of, digits, entries, entry, field_area, record_bytes, leader_of, of_data, record_of}
use Rattle.cell_bytes.proofs.Framed.{length-digits, length-record_bytes, length-leader_of}

-- ---- digits

digit_test : (d : ℕ) → d < 10 → is_ascii_digit (48 + d) ≡ true
digit_test d small = grind (arith, nat_tests)

digits_are : (count n : ℕ) → AreDigits (digits count n)
unfolding digits AreDigits
digits_are zero n = refl
digits_are (suc count) n =
    let small : n / 10 ^ count % 10 < 10 = omega arith in
    rw (digit_test (n / 10 ^ count % 10) small) (digits_are count n)

digit_value-of : (d : ℕ) → d < 10 → digit_value (48 + d) ≡ d
digit_value-of d small = grind (arith, nat_tests)

value-five : (n : ℕ) → n < 100000 → digits_value 10 (digits 5 n) ≡ n
unfolding digits
value-five n small =
    let at = λ (unit : ℕ). digit_value-of (n / unit % 10) (omega arith) in
    omega (arith, at 10000, at 1000, at 100, at 10, at 1)

-- ---- the leader

has_leader : (base bytes : ℕ) → 25 ≤ base → base ≤ bytes → bytes < 100000 → HasLeader false (leader_of of_data base bytes)
unfolding leader_of digits
has_leader base bytes low within small = record {
  whole = refl;
  length_in_digits = digits_are 5 bytes;
  kind = refl;
  control_length = λ e. absurd (false≢true e);
  base_in_digits = digits_are 5 base;
  directory = subst (λ (n : ℕ). 25 ≤ n) (sym (value-five base (omega arith))) low;
  field_area = subst (λ (n : ℕ). n ≤ digits_value 10 (digits 5 bytes)) (sym (value-five base (omega arith)))
      (subst (λ (n : ℕ). base ≤ n) (sym (value-five bytes small)) within);
  size_of_length = (lit≤ tt, lit≤ tt);
  size_of_position = (lit≤ tt, lit≤ tt);
  size_of_tag = refl;
}

-- what the leader says
abbrev says : ℕ → ℕ → Frame
says base bytes = record { length = bytes; base = base; size_length = 5; size_position = 5 }

leader_says : (base bytes : ℕ) → base < 100000 → bytes < 100000 → frame_of (leader_of of_data base bytes) ≡ says base bytes
unfolding frame_of leader_of digits
leader_says base bytes small small' =
    λ i. record {
      length = value-five bytes small' i;
      base = value-five base small i;
      size_length = 5;
      size_position = 5;
    }

-- ---- the directory

-- what the entries of fields say, of which the first stands at the position
abbrev read_entries : ℕ → List Field → List Entry
read_entries position [] = []
read_entries position (one ∷ more) =
    record { tag = one.0; length = length one.1; position = position } ∷ read_entries (position + length one.1) more

-- tags have four bytes, and lengths and positions five digits at most
abbrev pub Fit : ℕ → List Field → Type 0
Fit position [] = Unit {0}
Fit position (one ∷ more) =
    (length one.0 ≡ 4) × (position + length one.1 < 100000) × Fit (position + length one.1) more

entry_split : (position : ℕ) (one : Field) → entry position one ≡ one.0 ++ (digits 5 (length one.1) ++ digits 5 position)
unfolding entry
entry_split position one = append_assoc one.0 (digits 5 (length one.1)) (digits 5 position)

module _ (base bytes position : ℕ) (one : Field) (tag : length one.0 ≡ 4) where
  length_digits : slice_range (entry position one) 4 9 ≡ digits 5 (length one.1)
  length_digits =
      ap (λ (l : List ℕ). take 5 (drop 4 l)) (entry_split position one)
      ∙ ap (take 5) (drop_at one.0 (digits 5 (length one.1) ++ digits 5 position) 4 tag)
      ∙ take_at (digits 5 (length one.1)) (digits 5 position) 5 (length-digits 5 (length one.1))

  entry_length : length (entry position one) ≡ 14
  unfolding entry
  entry_length =
      omega (
        arith,
        length-append (one.0 ++ digits 5 (length one.1)) (digits 5 position),
        length-append one.0 (digits 5 (length one.1)),
        length-digits 5 (length one.1),
        length-digits 5 position,
      )

  position_digits : slice_range (entry position one) 9 14 ≡ digits 5 position
  unfolding entry
  position_digits =
      ap (take 5) (drop_at (one.0 ++ digits 5 (length one.1)) (digits 5 position) 9
      (omega (arith, length-append one.0 (digits 5 (length one.1)), length-digits 5 (length one.1))))
      ∙ ap (take 5) (sym (append-nil (digits 5 position)))
      ∙ take_at (digits 5 position) [] 5 (length-digits 5 position)

  is_entry : IsEntry (says base bytes) (entry position one)
  is_entry = record {
    whole = entry_length;
    length_in_digits = subst AreDigits (sym length_digits) (digits_are 5 (length one.1));
    position_in_digits = subst AreDigits (sym position_digits) (digits_are 5 position);
  }

  entry_says : position < 100000 → length one.1 < 100000
      → record { tag = one.0; length = length one.1; position = position } ≡ entry_of (says base bytes) (entry position one)
  unfolding entry_of
  entry_says small small' =
      λ i. record {
        tag = sym (ap (take 4) (entry_split position one) ∙ take_at one.0 (digits 5 (length one.1) ++ digits 5 position) 4 tag) i;
        length = sym (ap (digits_value 10) length_digits ∙ value-five (length one.1) small') i;
        position = sym (ap (digits_value 10) position_digits ∙ value-five position small) i;
      }

is_directory : (base bytes position : ℕ) (fields : List Field) → position < 100000 → Fit position fields
    → IsDirectory (says base bytes) (read_entries position fields) (entries position fields)
unfolding entries
is_directory base bytes position [] small fit = refl
is_directory base bytes position (one ∷ more) small fit = (
  entry position one,
  entries (position + length one.1) more,
  refl,
  is_entry base bytes position one fit.0,
  entry_says base bytes position one fit.0 small (omega (arith, fit.1)),
  is_directory base bytes (position + length one.1) more fit.1 fit.2,
)

-- ---- the whole record

module _ (directory area : List ℕ) where
  -- the parts of a record, from its leader on
  parts : record_bytes of_data directory area
      ≡ leader_of of_data (base_of directory) (base_of directory + length area) ++ (directory ++ FIELD_TERMINATOR ∷ area)
  unfolding record_bytes
  parts =
      let leader : List ℕ = leader_of of_data (base_of directory) (base_of directory + length area) in
      append_assoc (leader ++ directory) (FIELD_TERMINATOR ∷ []) area
      ∙ append_assoc leader directory (FIELD_TERMINATOR ∷ area)

  leader_taken : take 24 (record_bytes of_data directory area) ≡ leader_of of_data (base_of directory) (base_of directory + length area)
  leader_taken =
      ap (take 24) parts
      ∙ take_at (leader_of of_data (base_of directory) (base_of directory + length area)) (directory ++ FIELD_TERMINATOR ∷ area) 24
      (length-leader_of (base_of directory) (base_of directory + length area))

  directory_taken : slice_range (record_bytes of_data directory area) 24 (base_of directory - 1) ≡ directory
  directory_taken =
      ap (λ (l : List ℕ). take (base_of directory - 1 - 24) (drop 24 l)) parts
      ∙ ap (take (base_of directory - 1 - 24))
      (drop_at (leader_of of_data (base_of directory) (base_of directory + length area)) (directory ++ FIELD_TERMINATOR ∷ area) 24
      (length-leader_of (base_of directory) (base_of directory + length area)))
      ∙ take_at directory (FIELD_TERMINATOR ∷ area) (base_of directory - 1 - 24) (omega arith)

  closing_is : get_or (record_bytes of_data directory area) (base_of directory - 1) 0 ≡ FIELD_TERMINATOR
  closing_is =
      let leader : List ℕ = leader_of of_data (base_of directory) (base_of directory + length area) in
      let before : length (leader ++ directory) ≡ base_of directory - 1 =
      omega (arith, length-append leader directory, length-leader_of (base_of directory) (base_of directory + length area)) in
      ap (λ (l : List ℕ). get_or l (base_of directory - 1) 0) (parts ∙ sym (append_assoc leader directory (FIELD_TERMINATOR ∷ area)))
      ∙ get_or_at (leader ++ directory) FIELD_TERMINATOR area 0 (base_of directory - 1) before

  -- what stands behind the base address
  area_taken : drop (base_of directory) (record_bytes of_data directory area) ≡ area
  unfolding record_bytes
  area_taken =
      let leader : List ℕ = leader_of of_data (base_of directory) (base_of directory + length area) in
      drop_at (leader ++ directory ++ FIELD_TERMINATOR ∷ []) area (base_of directory)
      (omega (
        arith,
        length-append (leader ++ directory) (FIELD_TERMINATOR ∷ []),
        length-append leader directory,
        length-leader_of (base_of directory) (base_of directory + length area),
      ))

-- each field ends with a field terminator
abbrev pub Ended : List Field → Type 0
Ended [] = Unit {0}
Ended (one ∷ more) = ((text : List ℕ) × (one.1 ≡ text ++ FIELD_TERMINATOR ∷ [])) × Ended more

-- the bytes of a field in the field area, behind those before it
bytes_at : (frame : Frame) (bytes before more : List ℕ) (one : Field) (position : ℕ) → length before ≡ position
    → drop frame.base bytes ≡ before ++ (one.1 ++ more)
    → field_bytes frame bytes (record { tag = one.0; length = length one.1; position = position }) ≡ one.1
bytes_at frame bytes before more one position at area =
    let size : frame.base + position + length one.1 - (frame.base + position) ≡ length one.1 = omega arith in
    ap (λ (n : ℕ). take n (drop (frame.base + position) bytes)) size
    ∙ ap (take (length one.1)) (sym (drop-drop position frame.base bytes) ∙ ap (drop position) area ∙ drop_at before (one.1 ++ more) position at)
    ∙ take_at one.1 more (length one.1) refl

named : (frame : Frame) (bytes before : List ℕ) (position : ℕ) (fields : List Field) → length before ≡ position
    → drop frame.base bytes ≡ before ++ field_area fields
    → map (λ (e : Entry). (e.tag, field_bytes frame bytes e)) (read_entries position fields) ≡ fields
unfolding field_area
named frame bytes before position [] at area = refl
named frame bytes before position (one ∷ more) at area =
    let first : (one.0, field_bytes frame bytes (record { tag = one.0; length = length one.1; position = position })) ≡ one =
    ap (λ (l : List ℕ). (one.0, l)) (bytes_at frame bytes before (field_area more) one position at area) in
    let rest = named frame bytes (before ++ one.1) (position + length one.1) more
    (length-append before one.1 ∙ ap (λ (n : ℕ). n + length one.1) at)
    (area ∙ sym (append_assoc before one.1 (field_area more))) in
    ap (λ (f : Field). f ∷ map (λ (e : Entry). (e.tag, field_bytes frame bytes e)) (read_entries (position + length one.1) more)) first
    ∙ ap (λ (l : List Field). one ∷ l) rest

inside : (frame : Frame) (position : ℕ) (fields : List Field)
    → frame.base + position + length (field_area fields) ≤ frame.length → AllByRecursion (IsInside frame) (read_entries position fields)
unfolding field_area
inside frame position [] fits = tt
inside frame position (one ∷ more) fits = (
  omega (arith, fits, length-append one.1 (field_area more)),
  inside frame (position + length one.1) more (omega (arith, fits, length-append one.1 (field_area more))),
)

ended : (tags : List (List ℕ)) (frame : Frame) (bytes before : List ℕ) (position : ℕ) (fields : List Field) → length before ≡ position
    → drop frame.base bytes ≡ before ++ field_area fields → Ended fields
    → AllByRecursion (IsEnded tags frame bytes) (read_entries position fields)
unfolding field_area
ended tags frame bytes before position [] at area ends = tt
ended tags frame bytes before position (one ∷ more) at area ends = (
  λ listed. (ends.0.0, bytes_at frame bytes before (field_area more) one position at area ∙ ends.0.1),
  ended tags frame bytes (before ++ one.1) (position + length one.1) more
      (length-append before one.1 ∙ ap (λ (n : ℕ). n + length one.1) at)
      (area ∙ sym (append_assoc before one.1 (field_area more))) ends.1,
)

pub has_fields : (tags : List (List ℕ)) (fields : List Field) → length (record_of of_data fields) ≤ 99999
    → Fit 0 fields → Ended fields → HasFields tags (record_of of_data fields) fields
unfolding record_of
has_fields tags fields small fit ends =
    let directory : List ℕ = entries 0 fields in
    let area : List ℕ = field_area fields in
    let base : ℕ = base_of directory in
    let bytes : ℕ = base + length area in
    let whole : length (record_bytes of_data directory area) ≡ bytes = length-record_bytes directory area in
    let few : bytes < 100000 = omega (arith, whole, small) in
    record {
      frame = says base bytes;
      entries = read_entries 0 fields;
      is_record = record {
        leader = subst (HasLeader false) (sym (leader_taken directory area)) (has_leader base bytes (omega arith) (omega arith) few);
        says = sym (ap frame_of (leader_taken directory area) ∙ leader_says base bytes (omega arith) few);
        directory = subst (IsDirectory (says base bytes) (read_entries 0 fields)) (sym (directory_taken directory area))
            (is_directory base bytes 0 fields (omega arith) fit);
        closing = closing_is directory area;
        whole = whole;
        inside = inside (says base bytes) 0 fields (omega arith);
        ended = ended tags (says base bytes) (record_bytes of_data directory area) [] 0 fields refl (area_taken directory area) ends;
      };
      named = named (says base bytes) (record_bytes of_data directory area) [] 0 fields refl (area_taken directory area);
    }

-- The function gives the reading of a bank, or its first fault.
use Rattle.std.proofs.Common.{◌≡◌, ◌⊎◌, inl, inr, ℕ, ◌+◌, ◌-◌, ◌<◌, ◌≤◌, ◌&&◌, Bool, true, false, List}
use Rattle.std.proofs.Common.{[], ◌∷◌, ◌++◌, length, take, drop, slice_index, nat_lt, nat_eq, Result, Ok, Err}
use Rattle.std.proofs.Common.{refl, sym, ◌∙◌, ap, subst, arith, length-append, length-drop, length-take-le}
use Rattle.std.proofs.Common.{take-append-drop}
use Rattle.std.proofs.lemmas.Bool.Decides.{leb_tells}
use Rattle.std.proofs.lemmas.Bool.{eq-eqb, lt-ltb, le-leb, lt-leb}
use Rattle.std.proofs.lemmas.Bool.{false_from_ne_true, and_parts, ltb-true, eqb-true, cases_Bool}
use Rattle.std.proofs.lemmas.List.{take_at, drop_at, drop-drop, drop_more}
use Rattle.byteorder.specs.Endian.{big_number}
use Rattle.byteorder.specs.Numbers.{big_from-append, big_from-take}
use Rattle.bank_journal.specs.Content.{Content}
use Rattle.bank_journal.specs.Bank.{AreRecords, IsShut, checkpoint_length, HasHeader, empty_content, HasContent}
use Rattle.bank_journal.specs.Bank.{ReadsAs, HasFault}
use Rattle.bank_journal.specs.Reading.{bodies_in, content_of, bank_of}
use Rattle.bank_journal.proofs.Records.{ReadsBodies, LeavesCut, Tells, passed, tells, read_bodies, read_cut}
use Rattle.bank_journal.proofs.Records.{some_records}

-- ---- the function by its cases

pub short_bank : (bytes : List ℕ) → length bytes ≤ 9 → bank_of bytes ≡ Ok empty_content
unfolding bank_of
short_bank bytes short = rw (le-leb (length bytes) 9 short) refl

abbrev header_test : List ℕ → Bool
header_test bytes = nat_eq (slice_index bytes 0) 0 && nat_lt (8 + checkpoint_length bytes) (length bytes)

header_true : (bytes : List ℕ) → HasHeader bytes → header_test bytes ≡ true
header_true bytes header = rw
    (eq-eqb (slice_index bytes 0) 0 header.layout, lt-ltb (8 + checkpoint_length bytes) (length bytes) header.fits) refl

pub header_from : (bytes : List ℕ) → header_test bytes ≡ true → HasHeader bytes
header_from bytes test =
    let parts = and_parts _ _ test in
    record { layout = eqb-true _ _ parts.0; fits = ltb-true _ _ parts.1 }

header_false : (bytes : List ℕ) → ¬ HasHeader bytes → header_test bytes ≡ false
header_false bytes foreign = false_from_ne_true (header_test bytes) (λ test. foreign (header_from bytes test))

pub foreign_header : (bytes : List ℕ) → 9 < length bytes → ¬ HasHeader bytes → bank_of bytes ≡ Err 0
unfolding bank_of
foreign_header bytes long foreign = rw (lt-leb (length bytes) 9 long, header_false bytes foreign) refl

pub whole_header : (bytes : List ℕ) → 9 < length bytes → HasHeader bytes
    → bank_of bytes ≡ content_of bytes (bodies_in 0 (drop (8 + checkpoint_length bytes) bytes))
unfolding bank_of
whole_header bytes long header =
    rw (lt-leb (length bytes) 9 long, header_true bytes header, passed (8 + checkpoint_length bytes) bytes) refl

-- ---- what is given holds

abbrev pub Says : List ℕ → Result Content ℕ → Type 0
Says bytes (Ok content) = ReadsAs bytes content
Says bytes (Err offset) = HasFault bytes offset

-- the bytes by their parts
pub parts : (bytes : List ℕ) → HasHeader bytes
    → bytes ≡ 0 ∷ (take 7 (drop 1 bytes) ++
    (take (checkpoint_length bytes) (drop 8 bytes) ++ drop (8 + checkpoint_length bytes) bytes))
parts bytes header =
    let c = checkpoint_length bytes in
    let first : bytes ≡ slice_index bytes 0 ∷ drop 1 bytes = drop_more bytes 0 0 (omega (arith, header.fits)) in
    let seven : take 7 (drop 1 bytes) ++ drop 8 bytes ≡ drop 1 bytes =
    ap (λ (l : List ℕ). take 7 (drop 1 bytes) ++ l) (sym (drop-drop 7 1 bytes)) ∙ take-append-drop 7 (drop 1 bytes) in
    let rest : take c (drop 8 bytes) ++ drop (8 + c) bytes ≡ drop 8 bytes =
    ap (λ (l : List ℕ). take c (drop 8 bytes) ++ l) (sym (drop-drop c 8 bytes)) ∙ take-append-drop c (drop 8 bytes) in
    first
    ∙ ap (λ (n : ℕ). n ∷ drop 1 bytes) header.layout
    ∙ ap (λ (l : List ℕ). 0 ∷ l) (sym seven ∙ ap (λ (l : List ℕ). take 7 (drop 1 bytes) ++ l) (sym rest))

says_content : (bytes : List ℕ) (result : Result (List (List ℕ)) ℕ) → 9 < length bytes → HasHeader bytes
    → Tells (drop (8 + checkpoint_length bytes) bytes) result → Says bytes (content_of bytes result)
says_content bytes (Ok bodies) long header tells = inr (
  long,
  record {
    size = take 7 (drop 1 bytes);
    records = drop (8 + checkpoint_length bytes) bytes;
    last = tells.last;
    parts = parts bytes header;
    seven = length-take-le 7 (drop 1 bytes) (omega (arith, length-drop 1 bytes));
    counted = big_from-take 0 7 7 (drop 1 bytes) (omega arith)
        ∙ sym (length-take-le (checkpoint_length bytes) (drop 8 bytes)
        (omega (arith, length-drop 8 bytes, header.fits)));
    bodies = tells.records;
    shut = tells.shut;
  },
)
says_content bytes (Err left) long header tells = (
  long,
  inr (
    header,
    record {
      bodies = tells.bodies;
      rest = tells.rest;
      records = tells.records;
      cut = tells.cut;
      place = place;
    },
  ),
)
  where
    within : (all : List ℕ) (bodies : List (List ℕ)) (rest : List ℕ) → AreRecords all bodies rest
        → length rest ≤ length all
    within all [] rest are = omega (arith, ap length are)
    within all (body ∷ bodies) rest are =
        let first = are.1 in
        let inner = within are.0 bodies rest are.2 in
        omega (arith, inner, ap length first.parts, length-append first.size (body ++ are.0), length-append body are.0)

    place : length bytes - left + length tells.rest ≡ length bytes
    place = omega (arith, tells.counted, within _ _ _ tells.records, length-drop (8 + checkpoint_length bytes) bytes)

says_long : (bytes : List ℕ) → 9 < length bytes → Says bytes (bank_of bytes)
says_long bytes long =
    elim (cases_Bool (header_test bytes)) [
      | inl test ↦
          let header = header_from bytes test in
          subst (Says bytes) (sym (whole_header bytes long header))
          (says_content bytes _ long header (tells (8 + checkpoint_length bytes) bytes header.fits))
      | inr test ↦
          let foreign : ¬ HasHeader bytes = λ header. let is = header_true bytes header in absurd (cc) in
          subst (Says bytes) (sym (foreign_header bytes long foreign)) (long, inl (foreign, refl))
    ]

pub says : (bytes : List ℕ) → Says bytes (bank_of bytes)
says bytes =
    elim (leb_tells (length bytes) 9) [
      | inl h ↦ subst (Says bytes) (sym (short_bank bytes h.1)) (inl (h.1, refl))
      | inr h ↦ says_long bytes h.1
    ]

-- ---- what holds is given

-- what the parts of a content tell of the bytes
pub record Told (bytes : List ℕ) (content : Content) : Type 0 where
  pub header : HasHeader bytes
  pub counted : checkpoint_length bytes ≡ length content.checkpoint
  pub checkpoint : take (checkpoint_length bytes) (drop 8 bytes) ≡ content.checkpoint
  pub reads : ReadsBodies (drop (8 + checkpoint_length bytes) bytes) content.bodies

told_of : (checkpoint size records last : List ℕ) (bodies : List (List ℕ)) → length size ≡ 7
    → big_number 7 size ≡ length checkpoint → AreRecords records bodies last → IsShut last
    → Told (0 ∷ (size ++ (checkpoint ++ records))) (record { checkpoint = checkpoint; bodies = bodies })
told_of checkpoint size records last bodies seven counted are shut =
    let rest = size ++ (checkpoint ++ records) in
    let number : big_number 7 rest ≡ length checkpoint = big_from-append 7 size (checkpoint ++ records)
    (omega (arith, seven)) ∙ counted in
    let inner : drop 7 rest ≡ checkpoint ++ records = drop_at size (checkpoint ++ records) 7 seven in
    let gate : 0 < length records = some_records records bodies last are (omega (arith, ap length shut.parts)) in
    let behind : drop (8 + big_number 7 rest) (0 ∷ rest) ≡ records =
    ap (λ (n : ℕ). drop (8 + n) (0 ∷ rest)) number
    ∙ sym (drop-drop (length checkpoint) 8 (0 ∷ rest))
    ∙ ap (λ (l : List ℕ). drop (length checkpoint) l) inner
    ∙ drop_at checkpoint records (length checkpoint) refl in
    record {
      header = record {
        layout = refl;
        fits = omega (
          arith,
          number,
          seven,
          gate,
          length-append size (checkpoint ++ records),
          length-append checkpoint
              records,
        );
      };
      counted = number;
      checkpoint = ap (λ (n : ℕ). take n (drop 8 (0 ∷ rest))) number
          ∙ ap (λ (l : List ℕ). take (length checkpoint) l) inner ∙ take_at checkpoint records (length checkpoint) refl;
      reads = record {
        last = last;
        records = subst (λ (l : List ℕ). AreRecords l bodies last) (sym behind) are;
        shut =
            shut;
      };
    }

pub told : (bytes : List ℕ) (content : Content) → HasContent bytes content → Told bytes content
told bytes content has =
    subst (λ (l : List ℕ). Told l content) (sym has.parts)
    (told_of content.checkpoint has.size has.records has.last content.bodies has.seven has.counted has.bodies
    has.shut)

pub given_content : (bytes : List ℕ) (content : Content) → 9 < length bytes → HasContent bytes content
    → bank_of bytes ≡ Ok content
given_content bytes content long has =
    let t = told bytes content has in
    whole_header bytes long t.header
    ∙ ap (content_of bytes) (read_bodies _ _ t.reads)
    ∙ ap (λ (l : List ℕ). Ok (record { checkpoint = l; bodies = content.bodies })) t.checkpoint

pub given : (bytes : List ℕ) (content : Content) → ReadsAs bytes content → bank_of bytes ≡ Ok content
given bytes content (inl short) = short_bank bytes short.0 ∙ ap (λ (c : Content). Ok c) (sym short.1)
given bytes content (inr long) = given_content bytes content long.0 long.1

pub given_fault : (bytes : List ℕ) (offset : ℕ) → HasFault bytes offset → bank_of bytes ≡ Err offset
given_fault bytes offset (long, inl foreign) = foreign_header bytes long foreign.0
    ∙ ap (λ (n : ℕ). Err n) (sym foreign.1)
given_fault bytes offset (long, inr (header, cut)) =
    let left : LeavesCut (drop (8 + checkpoint_length bytes) bytes) (length cut.rest) =
    record { bodies = cut.bodies; rest = cut.rest; records = cut.records; cut = cut.cut; counted = refl } in
    let place : length bytes - length cut.rest ≡ offset = omega (arith, cut.place) in
    whole_header bytes long header ∙ ap (content_of bytes) (read_cut _ _ left) ∙ ap (λ (n : ℕ). Err n) place

-- ---- the law

pub reading_tells : (bytes : List ℕ) (content : Content) → bank_of bytes ≡ Ok content → ReadsAs bytes content
reading_tells bytes content is = subst (Says bytes) is (says bytes)

pub fault_tells : (bytes : List ℕ) (offset : ℕ) → bank_of bytes ≡ Err offset → HasFault bytes offset
fault_tells bytes offset is = subst (Says bytes) is (says bytes)

either_of : (bytes : List ℕ) (result : Result Content ℕ) → Says bytes result
    → ((content : Content) × ReadsAs bytes content) ⊎ ((offset : ℕ) × HasFault bytes offset)
either_of bytes (Ok content) says = inl (content, says)
either_of bytes (Err offset) says = inr (offset, says)

pub either : (bytes : List ℕ) → ((content : Content) × ReadsAs bytes content)
    ⊎ ((offset : ℕ) × HasFault bytes offset)
either bytes = either_of bytes (bank_of bytes) (says bytes)

pub one_reading : (bytes : List ℕ) (a b : Content) → ReadsAs bytes a → ReadsAs bytes b → a ≡ b
one_reading bytes a b reads_a reads_b =
    let first = given bytes a reads_a in
    let second = given bytes b reads_b in
    cc

pub one_fault : (bytes : List ℕ) (a b : ℕ) → HasFault bytes a → HasFault bytes b → a ≡ b
one_fault bytes a b fault_a fault_b =
    let first = given_fault bytes a fault_a in
    let second = given_fault bytes b fault_b in
    cc

pub never_both : (bytes : List ℕ) (content : Content) (offset : ℕ) → ReadsAs bytes content → HasFault bytes offset
    → ⊥
never_both bytes content offset reads fault =
    let first = given bytes content reads in
    let second = given_fault bytes offset fault in
    absurd (cc)

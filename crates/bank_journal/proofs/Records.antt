-- The function gives the bodies of records.
use Rattle.std.proofs.Common.{◌≡◌, inl, inr, ℕ, zero, suc, ◌+◌, ◌%◌, ◌<◌, ◌≤◌, List, [], ◌∷◌, ◌++◌, length}
use Rattle.std.proofs.Common.{take, drop, Result, Ok, Err, refl, sym, ◌∙◌, ap, subst, arith, length-append, length-drop}
use Rattle.std.proofs.Common.{length-take-le, take-append-drop}
use Rattle.std.proofs.lemmas.Bool.Decides.{eqb_tells, leb_tells}
use Rattle.std.proofs.lemmas.Bool.{eq-eqb, ne_eqb, lt-ltb, le-ltb}
use Rattle.std.proofs.lemmas.List.{take_at, drop_at, drop-drop, append-nil}
use Rattle.byteorder.specs.Endian.{big_number}
use Rattle.byteorder.specs.Numbers.{big_from-append, big_from-take}
use Rattle.bank_journal.specs.Bank.{IsOpen, BeginsRecord, AreRecords, IsShut, IsCutShort}
use Rattle.bank_journal.specs.Reading.{behind_bodies, body_in, bodies_in}

-- ---- one gate

pub passed : (n : ℕ) (bytes : List ℕ) → bodies_in n bytes ≡ bodies_in 0 (drop n bytes)
unfolding bodies_in
passed zero bytes = refl
passed (suc n) [] = refl
passed (suc n) (x ∷ bytes) = passed n bytes

pub none_behind : (gate : ℕ) (behind : List ℕ) → ¬ IsOpen gate → bodies_in 0 (gate ∷ behind) ≡ Ok []
unfolding bodies_in
none_behind gate behind closed = rw (ne_eqb (gate % 2) 1 closed) refl

pub cut_behind : (gate : ℕ) (behind : List ℕ) → IsOpen gate → length behind ≤ 4 + big_number 4 behind
    → bodies_in 0 (gate ∷ behind) ≡ Err (length (gate ∷ behind))
unfolding bodies_in
cut_behind gate behind opened passes = rw
    (eq-eqb (gate % 2) 1 opened, le-ltb (4 + big_number 4 behind) (length behind) passes) refl

pub body_behind : (gate : ℕ) (behind : List ℕ) → IsOpen gate → 4 + big_number 4 behind < length behind
    → bodies_in 0 (gate ∷ behind) ≡ behind_bodies (body_in behind ∷ [])
    (bodies_in 0 (drop (4 + big_number 4 behind) behind))
unfolding bodies_in
body_behind gate behind opened fits =
    rw (
      eq-eqb (gate % 2) 1 opened,
      lt-ltb (4 + big_number 4 behind) (length behind) fits,
      passed
          (4 + big_number 4 behind) behind,
    ) refl

-- ---- what the function gives, as a relation

-- records with these bodies, and a closed gate behind them
pub record ReadsBodies (bytes : List ℕ) (bodies : List (List ℕ)) : Type 0 where
  pub last : List ℕ
  pub records : AreRecords bytes bodies last
  pub shut : IsShut last

-- records, and behind them an open gate, from which so many bytes are left, whose record is cut short
pub record LeavesCut (bytes : List ℕ) (left : ℕ) : Type 0 where
  pub bodies : List (List ℕ)
  pub rest : List ℕ
  pub records : AreRecords bytes bodies rest
  pub cut : IsCutShort rest
  pub counted : left ≡ length rest

abbrev pub Tells : List ℕ → Result (List (List ℕ)) ℕ → Type 0
Tells bytes (Ok bodies) = ReadsBodies bytes bodies
Tells bytes (Err left) = LeavesCut bytes left

tells_behind : (bytes body more : List ℕ) (result : Result (List (List ℕ)) ℕ) → BeginsRecord bytes body more
    → Tells more result → Tells bytes (behind_bodies (body ∷ []) result)
tells_behind bytes body more (Ok bodies) first tells = record
    { last = tells.last; records = (more, first, tells.records); shut = tells.shut }
tells_behind bytes body more (Err left) first tells =
    record {
      bodies = body ∷ tells.bodies;
      rest = tells.rest;
      records = (more, first, tells.records);
      cut = tells.cut;
      counted = tells.counted;
    }

-- where the length fits, a record stands at an open gate
pub begins : (gate : ℕ) (behind : List ℕ) → IsOpen gate → 4 + big_number 4 behind < length behind
    → BeginsRecord (gate ∷ behind) (body_in behind) (drop (4 + big_number 4 behind) behind)
begins gate behind opened fits =
    let n = big_number 4 behind in
    let rest : take n (drop 4 behind) ++ drop (4 + n) behind ≡ drop 4 behind =
    ap (λ (l : List ℕ). take n (drop 4 behind) ++ l) (sym (drop-drop n 4 behind))
    ∙ take-append-drop n (drop 4 behind) in
    record {
      gate = gate;
      size = take 4 behind;
      parts = ap (λ (l : List ℕ). gate ∷ l) (sym (take-append-drop 4 behind)
          ∙ ap (λ (l : List ℕ). take 4 behind ++ l) (sym rest));
      opened = opened;
      four = length-take-le 4 behind (omega arith);
      counted = big_from-take 0 4 4 behind (omega arith)
          ∙ sym (length-take-le n (drop 4 behind) (omega (arith, length-drop 4 behind)));
    }

tells_at : (gate : ℕ) (behind : List ℕ)
    (more : Tells (drop (4 + big_number 4 behind) behind) (bodies_in 0 (drop (4 + big_number 4 behind) behind)))
    → 4 + big_number 4 behind < length behind → IsOpen gate → Tells (gate ∷ behind) (bodies_in 0 (gate ∷ behind))
tells_at gate behind more fits opened =
    subst (Tells (gate ∷ behind)) (sym (body_behind gate behind opened fits))
    (tells_behind _ _ _ _ (begins gate behind opened fits) more)

pub tells : (n : ℕ) (bytes : List ℕ) → n < length bytes → Tells (drop n bytes) (bodies_in 0 (drop n bytes))
tells n [] some = absurd (omega arith)
tells (suc n) (x ∷ bytes) some = tells n bytes (omega arith)
tells zero (gate ∷ behind) some =
    elim (eqb_tells (gate % 2) 1) [
      | inl h ↦ elim (leb_tells (suc (4 + big_number 4 behind)) (length behind)) [
        | inl f ↦ tells_at gate behind (tells (4 + big_number 4 behind) behind f.1) f.1 h.1
        | inr f ↦
            let passes : length behind ≤ 4 + big_number 4 behind = omega arith in
            subst (Tells (gate ∷ behind)) (sym (cut_behind gate behind h.1 passes)) (record {
              bodies = [];
              rest = gate ∷ behind;
              records = refl;
              cut = record { gate = gate; behind = behind; parts = refl; opened = h.1; passes = passes };
              counted = refl;
            })
      ]
      | inr h ↦ subst (Tells (gate ∷ behind)) (sym (none_behind gate behind h.1)) (record {
        last = gate ∷ behind;
        records = refl;
        shut = record { gate = gate; behind = behind; parts = refl; closed = h.1 };
      })
    ]

-- ---- and back

-- what stands behind a record that begins the bytes
pub record Behind (bytes body more : List ℕ) : Type 0 where
  pub gate : ℕ
  pub behind : List ℕ
  pub parts : bytes ≡ gate ∷ behind
  pub opened : IsOpen gate
  pub counted : big_number 4 behind ≡ length body
  pub body_is : body_in behind ≡ body
  pub more_is : drop (4 + length body) behind ≡ more
  pub sized : length behind ≡ 4 + length body + length more

pub behind_record : (bytes body more : List ℕ) → BeginsRecord bytes body more → Behind bytes body more
behind_record bytes body more first =
    let size = first.size in
    let behind = size ++ (body ++ more) in
    let counted : big_number 4 behind ≡ length body = big_from-append 4 size (body ++ more) (omega (arith, first.four))
    ∙ first.counted in
    let inner : drop 4 behind ≡ body ++ more = drop_at size (body ++ more) 4 first.four in
    record {
      gate = first.gate;
      behind = behind;
      parts = first.parts;
      opened = first.opened;
      counted = counted;
      body_is = ap (λ (n : ℕ). take n (drop 4 behind)) counted ∙ ap (λ (l : List ℕ). take (length body) l) inner
          ∙ take_at body more (length body) refl;
      more_is = sym (drop-drop (length body) 4 behind) ∙ ap (λ (l : List ℕ). drop (length body) l) inner
          ∙ drop_at body more (length body) refl;
      sized = omega (arith, length-append size (body ++ more), length-append body more, first.four);
    }

pub read_record : (bytes body more : List ℕ) → BeginsRecord bytes body more → 0 < length more
    → bodies_in 0 bytes ≡ behind_bodies (body ∷ []) (bodies_in 0 more)
read_record bytes body more first some =
    let b = behind_record bytes body more first in
    let fits : 4 + big_number 4 b.behind < length b.behind = omega (arith, b.counted, b.sized) in
    let more_is : drop (4 + big_number 4 b.behind) b.behind ≡ more = ap (λ (n : ℕ). drop (4 + n) b.behind) b.counted
    ∙ b.more_is in
    ap (bodies_in 0) b.parts
    ∙ body_behind b.gate b.behind b.opened fits
    ∙ ap (λ (l : List ℕ). behind_bodies (l ∷ []) (bodies_in 0 (drop (4 + big_number 4 b.behind) b.behind))) b.body_is
    ∙ ap (λ (l : List ℕ). behind_bodies (body ∷ []) (bodies_in 0 l)) more_is

behind_both : (body : List ℕ) (bodies : List (List ℕ)) (result : Result (List (List ℕ)) ℕ)
    → behind_bodies (body ∷ []) (behind_bodies bodies result) ≡ behind_bodies (body ∷ bodies) result
behind_both body bodies (Ok more) = refl
behind_both body bodies (Err left) = refl

behind_none : (result : Result (List (List ℕ)) ℕ) → result ≡ behind_bodies [] result
behind_none (Ok more) = refl
behind_none (Err left) = refl

-- bytes that end in more than nothing have a gate
pub some_records : (bytes : List ℕ) (bodies : List (List ℕ)) (rest : List ℕ) → AreRecords bytes bodies rest
    → 0 < length rest → 0 < length bytes
some_records bytes [] rest are some = omega (arith, ap length are)
some_records bytes (body ∷ bodies) rest are some = omega (arith, ap length are.1.parts)

pub read_records : (bytes : List ℕ) (bodies : List (List ℕ)) (rest : List ℕ) → AreRecords bytes bodies rest
    → 0 < length rest → bodies_in 0 bytes ≡ behind_bodies bodies (bodies_in 0 rest)
read_records bytes [] rest are some = ap (bodies_in 0) are ∙ behind_none (bodies_in 0 rest)
read_records bytes (body ∷ bodies) rest are some =
    read_record bytes body are.0 are.1 (some_records are.0 bodies rest are.2 some)
    ∙ ap (behind_bodies (body ∷ [])) (read_records are.0 bodies rest are.2 some)
    ∙ behind_both body bodies (bodies_in 0 rest)

append_none : (bodies : List (List ℕ)) → behind_bodies bodies (Ok []) ≡ Ok bodies
append_none bodies = ap (λ (l : List (List ℕ)). Ok l) (append-nil bodies)

pub read_bodies : (bytes : List ℕ) (bodies : List (List ℕ)) → ReadsBodies bytes bodies → bodies_in 0 bytes ≡ Ok bodies
read_bodies bytes bodies reads =
    let shut = reads.shut in
    read_records bytes bodies reads.last reads.records (omega (arith, ap length shut.parts))
    ∙ ap (λ (l : List ℕ). behind_bodies bodies (bodies_in 0 l)) shut.parts
    ∙ ap (behind_bodies bodies) (none_behind shut.gate shut.behind shut.closed)
    ∙ append_none bodies

pub read_cut : (bytes : List ℕ) (left : ℕ) → LeavesCut bytes left → bodies_in 0 bytes ≡ Err left
read_cut bytes left leaves =
    let cut = leaves.cut in
    read_records bytes leaves.bodies leaves.rest leaves.records (omega (arith, ap length cut.parts))
    ∙ ap (λ (l : List ℕ). behind_bodies leaves.bodies (bodies_in 0 l)) cut.parts
    ∙ ap (behind_bodies leaves.bodies) (cut_behind cut.gate cut.behind cut.opened cut.passes)
    ∙ ap (λ (n : ℕ). Err n) (ap length (sym cut.parts) ∙ sym leaves.counted)

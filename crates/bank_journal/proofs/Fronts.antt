-- A bank's bytes as what stands before its closed gate, the gate, and what stands behind it.
use Rattle.std.proofs.Common.{◌≡◌, ◌⊎◌, inl, inr, ℕ, ◌+◌, ◌%◌, ◌<◌, ◌≤◌, List, [], ◌∷◌, ◌++◌, length, take, drop}
use Rattle.std.proofs.Common.{get_or, refl, sym, ◌∙◌, ap, subst, arith, length-append, take-append-drop}
use Rattle.std.specs.List.{sum_by}
use Rattle.std.proofs.lemmas.Bool.{cases_eq, cases_lt}
use Rattle.std.proofs.lemmas.List.{append-nil, append_assoc, take_at, drop_at, drop_more, nil_from_length}
use Rattle.std.proofs.lemmas.List.Sums.{sum_by-cons, sum_by_push}
use Rattle.byteorder.specs.Endian.{big_number, big_bytes}
use Rattle.byteorder.specs.Numbers.{big_number-reads_back, length-bytes_high_first}
use Rattle.bank_journal.specs.Content.{Content}
use Rattle.bank_journal.specs.Bank.{frame_of, IsBodyLength, IsOpen, BeginsRecord, AreRecords, empty_content, with_body}
use Rattle.bank_journal.specs.Bank.{HasContent, gate_of, ReadsAs}

-- ---- records alone

before_more : (bytes body more rest : List ℕ) → BeginsRecord bytes body more
    → BeginsRecord (bytes ++ rest) body (more ++ rest)
before_more bytes body more rest first = record {
  gate = first.gate;
  size = first.size;
  parts = ap (λ (l : List ℕ). l ++ rest) first.parts
      ∙ ap (λ (l : List ℕ). first.gate ∷ l) (append_assoc first.size (body ++ more) rest
      ∙ ap (λ (l : List ℕ). first.size ++ l) (append_assoc body more rest));
  opened = first.opened;
  four = first.four;
  counted = first.counted;
}

are_before : (bytes : List ℕ) (bodies : List (List ℕ)) (rest : List ℕ) → AreRecords bytes bodies []
    → AreRecords (bytes ++ rest) bodies rest
are_before bytes [] rest are = ap (λ (l : List ℕ). l ++ rest) are
are_before bytes (body ∷ bodies) rest are =
    (are.0 ++ rest, before_more bytes body are.0 rest are.1, are_before are.0 bodies rest are.2)

-- the records without what stands behind them
record Cut (bytes : List ℕ) (bodies : List (List ℕ)) (rest : List ℕ) : Type 0 where
  pub front : List ℕ
  pub parts : bytes ≡ front ++ rest
  pub records : AreRecords front bodies []

begins_alone : (gate : ℕ) (size body more : List ℕ) → IsOpen gate → length size ≡ 4 → big_number 4 size ≡ length body
    → BeginsRecord (gate ∷ (size ++ (body ++ more))) body more
begins_alone gate size body more opened four counted = record
    { gate = gate; size = size; parts = refl; opened = opened; four = four; counted = counted }

cut : (bytes : List ℕ) (bodies : List (List ℕ)) (rest : List ℕ) → AreRecords bytes bodies rest → Cut bytes bodies rest
cut bytes [] rest are = record { front = []; parts = are; records = refl }
cut bytes (body ∷ bodies) rest are =
    let first = are.1 in
    let inner = cut are.0 bodies rest are.2 in
    record {
      front = first.gate ∷ (first.size ++ (body ++ inner.front));
      parts = first.parts
          ∙ ap (λ (l : List ℕ). first.gate ∷ (first.size ++ (body ++ l))) inner.parts
          ∙ ap (λ (l : List ℕ). first.gate ∷ l)
          (ap (λ (l : List ℕ). first.size ++ l) (sym (append_assoc body inner.front rest))
          ∙ sym (append_assoc first.size (body ++ inner.front) rest));
      records = (
        inner.front,
        begins_alone first.gate first.size body inner.front first.opened first.four first.counted,
        inner.records,
      );
    }

and_one : (bytes : List ℕ) (bodies : List (List ℕ)) (more body : List ℕ) → AreRecords bytes bodies []
    → BeginsRecord more body [] → AreRecords (bytes ++ more) (bodies ++ body ∷ []) []
and_one bytes [] more body are one = subst (λ (l : List ℕ). AreRecords (l ++ more) (body ∷ []) []) (sym are)
    ([], one, refl)
and_one bytes (first ∷ bodies) more body are one =
    (are.0 ++ more, before_more bytes first are.0 more are.1, and_one are.0 bodies more body are.2 one)

length-records : (bytes : List ℕ) (bodies : List (List ℕ)) → AreRecords bytes bodies []
    → length bytes ≡ sum_by (λ body. 5 + length body) bodies
length-records bytes [] are = ap length are
length-records bytes (body ∷ bodies) are =
    let first = are.1 in
    let size : List ℕ → ℕ = λ b. 5 + length b in
    omega (
      arith,
      ap length first.parts,
      length-append first.size (body ++ are.0),
      length-append body are.0,
      first.four,
      length-records are.0 bodies are.2,
      sum_by-cons size body bodies,
    )

-- ---- what stands before the closed gate

pub record IsFront (front : List ℕ) (content : Content) : Type 0 where
  pub size : List ℕ
  pub records : List ℕ
  pub parts : front ≡ 0 ∷ (size ++ (content.checkpoint ++ records))
  pub seven : length size ≡ 7
  pub counted : big_number 7 size ≡ length content.checkpoint
  pub bodies : AreRecords records content.bodies []

pub length-front : (front : List ℕ) (content : Content) → IsFront front content → length front ≡ gate_of content
length-front front content is =
    omega (
      arith,
      ap length is.parts,
      length-append is.size (content.checkpoint ++ is.records),
      length-append content.checkpoint is.records,
      is.seven,
      length-records is.records content.bodies is.bodies,
    )

regroup : (size checkpoint records rest : List ℕ)
    → size ++ (checkpoint ++ (records ++ rest)) ≡ (size ++ (checkpoint ++ records)) ++ rest
regroup size checkpoint records rest = ap (λ (l : List ℕ). size ++ l) (sym (append_assoc checkpoint records rest))
    ∙ sym (append_assoc size (checkpoint ++ records) rest)

pub record Parts (bytes : List ℕ) (content : Content) : Type 0 where
  pub front : List ℕ
  pub gate : ℕ
  pub behind : List ℕ
  pub parts : bytes ≡ front ++ gate ∷ behind
  pub closed : ¬ IsOpen gate
  pub is_front : IsFront front content

pub parts_of : (bytes : List ℕ) (content : Content) → HasContent bytes content → Parts bytes content
parts_of bytes content has =
    let c = cut has.records content.bodies has.last has.bodies in
    let rest : has.records ≡ c.front ++ has.shut.gate ∷ has.shut.behind = c.parts
    ∙ ap (λ (l : List ℕ). c.front ++ l) has.shut.parts in
    record {
      front = 0 ∷ (has.size ++ (content.checkpoint ++ c.front));
      gate = has.shut.gate;
      behind = has.shut.behind;
      parts = has.parts ∙ ap (λ (l : List ℕ). 0 ∷ (has.size ++ (content.checkpoint ++ l))) rest
          ∙ ap (λ (l : List ℕ). 0 ∷ l) (regroup has.size content.checkpoint c.front (has.shut.gate ∷ has.shut.behind));
      closed = has.shut.closed;
      is_front = record {
        size = has.size;
        records = c.front;
        parts = refl;
        seven = has.seven;
        counted = has.counted;
        bodies = c.records;
      };
    }

pub has_content : (front : List ℕ) (gate : ℕ) (behind : List ℕ) (content : Content) → IsFront front content
    → ¬ IsOpen gate → HasContent (front ++ gate ∷ behind) content
has_content front gate behind content is closed = record {
  size = is.size;
  records = is.records ++ gate ∷ behind;
  last = gate ∷ behind;
  parts = ap (λ (l : List ℕ). l ++ gate ∷ behind) is.parts
      ∙ ap (λ (l : List ℕ). 0 ∷ l) (sym (regroup is.size content.checkpoint is.records (gate ∷ behind)));
  seven = is.seven;
  counted = is.counted;
  bodies = are_before is.records content.bodies (gate ∷ behind) is.bodies;
  shut = record { gate = gate; behind = behind; parts = refl; closed = closed };
}

-- a record behind it
pub record_of : (gate : ℕ) (body : List ℕ) → IsOpen gate → IsBodyLength (length body)
    → BeginsRecord (gate ∷ (big_bytes 4 (length body) ++ body)) body []
record_of gate body opened fits =
    let size = big_bytes 4 (length body) in
    let number : big_number 4 (size ++ []) ≡ length body = big_number-reads_back 4 (length body) [] fits in
    record {
      gate = gate;
      size = size;
      parts = ap (λ (l : List ℕ). gate ∷ (size ++ l)) (sym (append-nil body));
      opened = opened;
      four = length-bytes_high_first 4 (length body);
      counted = ap (big_number 4) (sym (append-nil size)) ∙ number;
    }

pub front_more : (front : List ℕ) (content : Content) (gate : ℕ) (body : List ℕ) → IsFront front content
    → IsOpen gate → IsBodyLength (length body)
    → IsFront (front ++ gate ∷ (big_bytes 4 (length body) ++ body)) (with_body content body)
front_more front content gate body is opened fits =
    let more = gate ∷ (big_bytes 4 (length body) ++ body) in
    record {
      size = is.size;
      records = is.records ++ more;
      parts = ap (λ (l : List ℕ). l ++ more) is.parts
          ∙ ap (λ (l : List ℕ). 0 ∷ l) (sym (regroup is.size content.checkpoint is.records more));
      seven = is.seven;
      counted = is.counted;
      bodies = and_one is.records content.bodies more body is.bodies (record_of gate body opened fits);
    }

-- ---- as a bank is read

-- nine bytes have room for no checkpoint and no record
no_room : (checkpoint : List ℕ) (bodies : List (List ℕ))
    → 8 + length checkpoint + sum_by (λ body. 5 + length body) bodies ≤ 8
    → record { checkpoint = checkpoint; bodies = bodies } ≡ empty_content
no_room checkpoint [] room =
    let none = nil_from_length checkpoint (omega arith) in
    ap (λ (l : List ℕ). record { checkpoint = l; bodies = [] }) none
no_room checkpoint (body ∷ bodies) room =
    let size : List ℕ → ℕ = λ b. 5 + length b in
    absurd (omega (arith, sum_by-cons size body bodies))

pub reads_content : (bytes : List ℕ) (content : Content) → HasContent bytes content → ReadsAs bytes content
reads_content bytes content has =
    elim (cases_lt 9 (length bytes)) [
      | inl long ↦ inr (long, has)
      | inr short ↦
          let p = parts_of bytes content has in
          let size = length-front p.front content p.is_front in
          inl (
            short,
            no_room content.checkpoint content.bodies
                (omega (arith, ap length p.parts, length-append p.front (p.gate ∷ p.behind), size)),
          )
    ]

-- ---- bytes that differ from it behind the closed gate, or in the gate

module _ (old : List ℕ) (content : Content) (has : HasContent old content) (place : ℕ)
    (place_is : place ≡ gate_of content) where
  abbrev pub at_gate : Parts old content
  at_gate = parts_of old content has

  abbrev pub front : List ℕ
  front = at_gate.front

  abbrev pub closed_gate : ℕ
  closed_gate = at_gate.gate

  pub size : length front ≡ place
  size = length-front front content at_gate.is_front ∙ sym place_is

  pub inside : place < length old
  inside = omega (arith, size, ap length at_gate.parts, length-append front (closed_gate ∷ at_gate.behind))

  split : old ≡ (front ++ closed_gate ∷ []) ++ at_gate.behind
  split = at_gate.parts ∙ sym (append_assoc front (closed_gate ∷ []) at_gate.behind)

  up_to_gate : take (place + 1) old ≡ front ++ closed_gate ∷ []
  up_to_gate = ap (λ (l : List ℕ). take (place + 1) l) split
      ∙ take_at (front ++ closed_gate ∷ []) at_gate.behind (place + 1)
      (omega (arith, length-append front (closed_gate ∷ []), size))

  -- what stands behind the closed gate isn't looked at
  pub kept : (c : List ℕ) → take (place + 1) c ≡ take (place + 1) old → HasContent c content
  kept c same =
      let rest = drop (place + 1) c in
      let whole : c ≡ front ++ closed_gate ∷ rest =
      sym (take-append-drop (place + 1) c) ∙ ap (λ (l : List ℕ). l ++ rest) (same ∙ up_to_gate)
      ∙ append_assoc front (closed_gate ∷ []) rest in
      subst (λ (l : List ℕ). HasContent l content) (sym whole)
      (has_content front closed_gate rest content at_gate.is_front at_gate.closed)

  module _ (body tail staged : List ℕ) (fits : IsBodyLength (length body))
      (staged_is : staged ≡ take (place + 1) old ++ (frame_of body ++ tail)) where
    staged_parts : staged ≡ front ++ closed_gate ∷ (frame_of body ++ tail)
    staged_parts = staged_is ∙ ap (λ (l : List ℕ). l ++ (frame_of body ++ tail)) up_to_gate
        ∙ append_assoc front (closed_gate ∷ []) (frame_of body ++ tail)

    pub staged_inside : place < length staged
    staged_inside = omega
        (arith, size, ap length staged_parts, length-append front (closed_gate ∷ (frame_of body ++ tail)))

    staged_front : take place staged ≡ front
    staged_front = ap (λ (l : List ℕ). take place l) staged_parts
        ∙ take_at front (closed_gate ∷ (frame_of body ++ tail)) place size

    staged_back : drop (place + 1) staged ≡ frame_of body ++ tail
    staged_back =
        ap (λ (l : List ℕ). drop (place + 1) l) (staged_parts
        ∙ sym (append_assoc front (closed_gate ∷ []) (frame_of body ++ tail)))
        ∙ drop_at (front ++ closed_gate ∷ []) (frame_of body ++ tail) (place + 1)
        (omega (arith, length-append front (closed_gate ∷ []), size))

    frame_parts : (gate : ℕ)
        → front ++ gate ∷ (frame_of body ++ tail) ≡ (front ++ gate ∷ (big_bytes 4 (length body) ++ body)) ++ 0 ∷ tail
    frame_parts gate =
        let size_of = big_bytes 4 (length body) in
        let inner : frame_of body ++ tail ≡ (size_of ++ body) ++ 0 ∷ tail =
        append_assoc size_of (body ++ 0 ∷ []) tail ∙ ap (λ (l : List ℕ). size_of ++ l) (append_assoc body (0 ∷ []) tail)
        ∙ sym (append_assoc size_of body (0 ∷ tail)) in
        ap (λ (l : List ℕ). front ++ gate ∷ l) inner ∙ sym (append_assoc front (gate ∷ (size_of ++ body)) (0 ∷ tail))

    opened_content : (gate : ℕ) → IsOpen gate
        → HasContent (front ++ gate ∷ (frame_of body ++ tail)) (with_body content body)
    opened_content gate opened =
        subst (λ (l : List ℕ). HasContent l (with_body content body)) (sym (frame_parts gate))
        (has_content (front ++ gate ∷ (big_bytes 4 (length body) ++ body)) 0 tail (with_body content body)
        (front_more front content gate body at_gate.is_front opened fits) (omega arith))

    -- any byte at the gate closes it, or opens it and the record counts
    pub torn_gate : (c : List ℕ) → place < length c → take place c ≡ take place staged
        → drop (place + 1) c ≡ drop (place + 1) staged → HasContent c content ⊎ HasContent c (with_body content body)
    torn_gate c long before after =
        let gate = get_or c place 0 in
        let rest : drop place c ≡ gate ∷ (frame_of body ++ tail) = drop_more c place 0 long
        ∙ ap (λ (l : List ℕ). gate ∷ l) (after ∙ staged_back) in
        let whole : c ≡ front ++ gate ∷ (frame_of body ++ tail) =
        sym (take-append-drop place c) ∙ ap (λ (l : List ℕ). l ++ drop place c) (before ∙ staged_front)
        ∙ ap (λ (l : List ℕ). front ++ l) rest in
        elim (cases_eq (gate % 2) 1) [
          | inl opened ↦ inr (subst (λ (l : List ℕ). HasContent l (with_body content body)) (sym whole)
              (opened_content gate opened))
          | inr shut ↦ inl (subst (λ (l : List ℕ). HasContent l content) (sym whole)
              (has_content front gate (frame_of body ++ tail) content at_gate.is_front shut))
        ]

    -- the gate that is written open
    pub opened_gate : (c : List ℕ) → c ≡ take place staged ++ (1 ∷ [] ++ drop (place + 1) staged)
        → HasContent c (with_body content body)
    opened_gate c is =
        let whole : c ≡ front ++ 1 ∷ (frame_of body ++ tail) =
        is ∙ ap (λ (l : List ℕ). l ++ 1 ∷ drop (place + 1) staged) staged_front
        ∙ ap (λ (l : List ℕ). front ++ 1 ∷ l) staged_back in
        subst (λ (l : List ℕ). HasContent l (with_body content body)) (sym whole) (opened_content 1 refl)

    pub next_gate : place + length (frame_of body) ≡ gate_of (with_body content body)
    next_gate =
        let sizes : List ℕ → ℕ = λ b. 5 + length b in
        omega (
          arith,
          place_is,
          sum_by_push sizes content.bodies body,
          length-append (big_bytes 4 (length body)) (body ++ 0 ∷ []),
          length-append body (0 ∷ []),
          length-bytes_high_first 4 (length body),
        )

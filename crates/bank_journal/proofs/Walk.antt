-- One gate of a walk over the records of a bank.
use Rattle.std.proofs.Common.{◌≡◌, ℕ, ◌+◌, ◌-◌, ◌<◌, ◌≤◌, List, [], ◌∷◌, ◌++◌, length, map, take, drop, get_or}
use Rattle.std.proofs.Common.{Result, Ok, Err, refl, sym, ◌∙◌, ap, subst, arith, length-drop, length-take-le, sum_by}
use Rattle.std.proofs.lemmas.List.{drop_more, drop-drop, append_assoc, append-nil}
use Rattle.std.proofs.lemmas.List.Sums.{sum_by_push}
use Rattle.byteorder.specs.Endian.{big_number}
use Rattle.bank_journal.specs.declared.content.Span.{Span}
use Rattle.bank_journal.specs.declared.reading.WalkFault.{WalkFault}
use Rattle.bank_journal.specs.declared.reading.WalkFault.TheVariants.{Foreign, NoMemory}
use Rattle.bank_journal.specs.Bank.{IsOpen, HasHeader, checkpoint_length, gate_of}
use Rattle.bank_journal.specs.Parts.{content_at, part_of, IsWithin}
use Rattle.bank_journal.specs.WalkFault.{FaultHas}
use Rattle.bank_journal.specs.Reading.{behind_bodies, body_in, bodies_in, content_of, bank_of}
use Rattle.bank_journal.proofs.BankRead.{whole_header}
use Rattle.bank_journal.proofs.Records.{none_behind, cut_behind, body_behind}

joined_more : (bodies : List (List ℕ)) (body : List ℕ) (result : Result (List (List ℕ)) ℕ)
    → behind_bodies bodies (behind_bodies (body ∷ []) result) ≡ behind_bodies (bodies ++ body ∷ []) result
joined_more bodies body (Ok more) = ap (λ (l : List (List ℕ)). Ok l) (sym (append_assoc bodies (body ∷ []) more))
joined_more bodies body (Err left) = refl

module _ (bytes behind : List ℕ) (first at : ℕ) (bodies : List (List ℕ)) (inside : at < length bytes)
    (behind_is : behind ≡ drop (at + 1) bytes)
    (joined : bodies_in 0 (drop first bytes) ≡ behind_bodies bodies (bodies_in 0 (drop at bytes))) where
  abbrev gate : ℕ
  gate = get_or bytes at 0

  here : drop at bytes ≡ gate ∷ behind
  here = drop_more bytes at 0 inside ∙ ap (λ (l : List ℕ). gate ∷ l) (sym behind_is)

  pub walk_cut : IsOpen gate → length behind ≤ 4 + big_number 4 behind
      → content_of bytes (bodies_in 0 (drop first bytes)) ≡ Err at
  walk_cut opened passes =
      let left : length bytes - length (gate ∷ behind) ≡ at = omega
      (arith, ap length behind_is, length-drop (at + 1) bytes) in
      ap (content_of bytes) (joined ∙ ap (λ (l : List ℕ). behind_bodies bodies (bodies_in 0 l)) here
      ∙ ap (behind_bodies bodies) (cut_behind gate behind opened passes))
      ∙ ap (λ (n : ℕ). Err n) left

  pub walk_end : ¬ IsOpen gate → bodies_in 0 (drop first bytes) ≡ Ok bodies
  walk_end closed =
      joined ∙ ap (λ (l : List ℕ). behind_bodies bodies (bodies_in 0 l)) here
      ∙ ap (behind_bodies bodies) (none_behind gate behind closed)
      ∙ ap (λ (l : List (List ℕ)). Ok l) (append-nil bodies)

  -- what is passed by a record whose body has this length
  module _ (size : ℕ) (opened : IsOpen gate) (fits : 4 + size < length behind) (counted : size ≡ big_number 4 behind)
    where
      abbrev pub span : Span
      span = record { from = at + 5; to = at + 5 + size }

      pub walk_inside : at + 5 + size < length bytes
      walk_inside = omega (arith, ap length behind_is, length-drop (at + 1) bytes, fits)

      pub walk_within : IsWithin (length bytes) span
      walk_within = (omega arith, omega (arith, walk_inside))

      length-part : length (part_of bytes span) ≡ size
      length-part =
          let n = at + 5 + size - (at + 5) in
          let long : n ≤ length (drop (at + 5) bytes) = omega (arith, length-drop (at + 5) bytes, walk_inside) in
          length-take-le n (drop (at + 5) bytes) long ∙ omega arith

      body_is : part_of bytes span ≡ body_in behind
      body_is =
          let n : at + 5 + size - (at + 5) ≡ big_number 4 behind = omega (arith, counted) in
          let place : at + 1 + 4 ≡ at + 5 = omega arith in
          let rest : drop 4 behind ≡ drop (at + 5) bytes =
          ap (λ (l : List ℕ). drop 4 l) behind_is ∙ drop-drop 4 (at + 1) bytes ∙ ap (λ (m : ℕ). drop m bytes) place in
          ap (λ (m : ℕ). take m (drop (at + 5) bytes)) n ∙ ap (λ (l : List ℕ). take (big_number 4 behind) l) (sym rest)

      next : drop (4 + big_number 4 behind) behind ≡ drop (at + 5 + size) bytes
      next =
          let n = 4 + big_number 4 behind in
          let places : at + 1 + n ≡ at + 5 + size = omega (arith, counted) in
          ap (λ (l : List ℕ). drop n l) behind_is ∙ drop-drop n (at + 1) bytes ∙ ap (λ (m : ℕ). drop m bytes) places

      pub walk_on : bodies_in 0 (drop first bytes) ≡ behind_bodies (bodies ++ part_of bytes span ∷ [])
          (bodies_in 0 (drop (at + 5 + size) bytes))
      walk_on =
          joined ∙ ap (λ (l : List ℕ). behind_bodies bodies (bodies_in 0 l)) here
          ∙ ap (behind_bodies bodies)
          (body_behind gate behind opened (subst (λ (n : ℕ). 4 + n < length behind) counted fits))
          ∙ joined_more bodies (body_in behind) _
          ∙ ap (λ (l : List ℕ). behind_bodies (bodies ++ l ∷ []) (bodies_in 0 (drop (4 + big_number 4 behind) behind)))
          (sym body_is)
          ∙ ap (λ (l : List ℕ). behind_bodies (bodies ++ part_of bytes span ∷ []) (bodies_in 0 l)) next

      pub walk_place : at ≡ first + sum_by (λ body. 5 + length body) bodies
          → at + 5 + size ≡ first + sum_by (λ body. 5 + length body) (bodies ++ part_of bytes span ∷ [])
      walk_place place =
          omega (arith, place, sum_by_push (λ (b : List ℕ). 5 + length b) bodies (part_of bytes span), length-part)

-- ---- the whole

module _ (bytes : List ℕ) (first : ℕ) (long : 9 < length bytes) (header : HasHeader bytes)
    (place : first ≡ 8 + checkpoint_length bytes) where
  given_by : bank_of bytes ≡ content_of bytes (bodies_in 0 (drop first bytes))
  given_by = whole_header bytes long header ∙ ap (λ (n : ℕ). content_of bytes (bodies_in 0 (drop n bytes))) (sym place)

  pub bank_foreign : (fault : WalkFault)
      → FaultHas (λ offset. content_of bytes (bodies_in 0 (drop first bytes)) ≡ Err offset) fault
      → FaultHas (λ offset. bank_of bytes ≡ Err offset) fault
  bank_foreign (Foreign offset) is = given_by ∙ is
  bank_foreign NoMemory is = tt

  pub checkpoint_within : IsWithin (length bytes) (record { from = 8; to = first })
  checkpoint_within = (omega (arith, place), omega (arith, place, header.fits))

  pub bank_read : (bodies : List Span) → bodies_in 0 (drop first bytes) ≡ Ok (map (part_of bytes) bodies)
      → bank_of bytes ≡ Ok (content_at bytes (record { from = 8; to = first }) bodies)
  bank_read bodies bodies_are =
      let size : checkpoint_length bytes ≡ first - 8 = omega (arith, place) in
      given_by ∙ ap (content_of bytes) bodies_are
      ∙ ap (λ (n : ℕ). Ok (record { checkpoint = take n (drop 8 bytes); bodies = map (part_of bytes) bodies })) size

  pub gate_after : (bodies : List Span) (gate : ℕ)
      → gate ≡ first + sum_by (λ body. 5 + length body) (map (part_of bytes) bodies)
      → gate ≡ gate_of (content_at bytes (record { from = 8; to = first }) bodies)
  gate_after bodies gate gate_is =
      let long : first - 8 ≤ length (drop 8 bytes) = omega (arith, place, header.fits, length-drop 8 bytes) in
      omega (arith, place, gate_is, length-take-le (first - 8) (drop 8 bytes) long)

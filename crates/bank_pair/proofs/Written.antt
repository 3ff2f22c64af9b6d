-- A header and a checkpoint, slice by slice.
use Rattle.std.proofs.Common.{◌≡◌, ℕ, ◌+◌, ◌-◌, ◌*◌, ◌<◌, ◌≤◌, min, List, ◌∷◌, ◌++◌, length, take, drop, refl, sym}
use Rattle.std.proofs.Common.{inl, inr, ◌∙◌, ap, arith, length-append, length-drop, length-take-le}
use Rattle.std.proofs.Math.Seq.{take-add, take-append-add, drop-append-add}
use Rattle.std.proofs.lemmas.Bool.{cases_lt}
use Rattle.std.proofs.lemmas.List.{append-nil, drop_all, take_all, take_min}
use Rattle.byteorder.specs.Endian.{big_bytes}
use Rattle.byteorder.specs.Numbers.{length-bytes_high_first}
use Rattle.chart_ports.specs.Disk.{with_bytes}
use Rattle.bank_pair.specs.Saving.{AreSlicesOf, with_header}

-- ---- the header

abbrev pub header_of : ℕ → List ℕ
header_of n = 0 ∷ big_bytes 7 n

pub length-header : (n : ℕ) → length (header_of n) ≡ 8
length-header n = omega (arith, length-bytes_high_first 7 n)

pub header_is : (checkpoint : List ℕ) → with_header checkpoint ≡ header_of (length checkpoint) ++ checkpoint
unfolding with_header
header_is checkpoint = refl

pub length-with_header : (checkpoint : List ℕ) → length (with_header checkpoint) ≡ 8 + length checkpoint
length-with_header checkpoint = omega (
  arith,
  ap length (header_is checkpoint),
  length-append (header_of (length checkpoint)) checkpoint,
  length-header (length checkpoint),
)

-- what stands behind the header's place
drop-with_header : (checkpoint : List ℕ) (at : ℕ) → 8 ≤ at → drop at (with_header checkpoint) ≡ drop (at - 8) checkpoint
drop-with_header checkpoint at past =
    let header = header_of (length checkpoint) in
    let place : at ≡ length header + (at - 8) = omega (arith, length-header (length checkpoint)) in
    ap (drop at) (header_is checkpoint) ∙ ap (λ (n : ℕ). drop n (header ++ checkpoint)) place
    ∙ drop-append-add header checkpoint (at - 8)

take-with_header : (checkpoint : List ℕ) (n : ℕ)
    → take (8 + n) (with_header checkpoint) ≡ header_of (length checkpoint) ++ take n checkpoint
take-with_header checkpoint n =
    let header = header_of (length checkpoint) in
    let place : 8 + n ≡ length header + n = omega (arith, length-header (length checkpoint)) in
    ap (take (8 + n)) (header_is checkpoint) ∙ ap (λ (m : ℕ). take m (header ++ checkpoint)) place
    ∙ take-append-add header checkpoint n

-- ---- bytes at the end of a file

pub at_end : (at : ℕ) (bytes old : List ℕ) → length old ≡ at → with_bytes at bytes old ≡ old ++ bytes
at_end at bytes old ends =
    ap (λ (l : List ℕ). l ++ bytes ++ drop (at + length bytes) old) (take_all at old (omega (arith, ends)))
    ∙ ap (λ (l : List ℕ). old ++ bytes ++ l) (drop_all (at + length bytes) old (omega (arith, ends)))
    ∙ append-nil (old ++ bytes)

-- ---- the first slice, and one behind others

pub first_slice : (checkpoint old : List ℕ) (end : ℕ) → old ≡ header_of (length checkpoint)
    → end ≡ min (length checkpoint) 65528
    → with_bytes 8 (take end checkpoint) old ≡ take 65536 (with_header checkpoint)
first_slice checkpoint old end old_is end_is =
    let header = header_of (length checkpoint) in
    let part : take end checkpoint ≡ take 65528 checkpoint =
    ap (λ (n : ℕ). take n checkpoint) (omega (arith, end_is)) ∙ take_min 65528 checkpoint in
    at_end 8 (take end checkpoint) old (ap length old_is ∙ length-header (length checkpoint))
    ∙ ap (λ (l : List ℕ). l ++ take end checkpoint) old_is
    ∙ ap (λ (l : List ℕ). header ++ l) part
    ∙ sym (take-with_header checkpoint 65528)

pub slices_reach : (checkpoint old : List ℕ) (at : ℕ) → at ≤ 8 + length checkpoint
    → old ≡ take at (with_header checkpoint) → length old ≡ at
slices_reach checkpoint old at within old_is =
    ap length old_is
    ∙ length-take-le at (with_header checkpoint) (omega (arith, length-with_header checkpoint))

pub next_slice : (checkpoint old : List ℕ) (at end : ℕ) → 8 ≤ at → at ≤ 8 + length checkpoint
    → old ≡ take at (with_header checkpoint) → end ≡ min (length checkpoint) (at - 8 + 65536)
    → with_bytes at (take (end - (at - 8)) (drop (at - 8) checkpoint)) old ≡ take (at + 65536) (with_header checkpoint)
next_slice checkpoint old at end past within old_is end_is =
    let behind = drop (at - 8) checkpoint in
    let size : end - (at - 8) ≡ min 65536 (length behind) = omega (arith, end_is, length-drop (at - 8) checkpoint) in
    let part : take (end - (at - 8)) behind ≡ take 65536 (drop at (with_header checkpoint)) =
    ap (λ (n : ℕ). take n behind) size ∙ take_min 65536 behind
    ∙ ap (take 65536) (sym (drop-with_header checkpoint at past)) in
    at_end at (take (end - (at - 8)) behind) old (slices_reach checkpoint old at within old_is)
    ∙ ap (λ (l : List ℕ). l ++ take (end - (at - 8)) behind) old_is
    ∙ ap (λ (l : List ℕ). take at (with_header checkpoint) ++ l) part
    ∙ sym (take-add at 65536 (with_header checkpoint))

-- ---- how many there are

-- a slice that is left begins within the header and the checkpoint
pub slice_left : (checkpoint : List ℕ) (slices written : ℕ) → AreSlicesOf checkpoint slices → written < slices
    → written * 65536 < 8 + length checkpoint
slice_left checkpoint slices written are left =
    elim (cases_lt (written * 65536) (8 + length checkpoint)) [
      | inl within ↦ within
      | inr past ↦ absurd (omega (arith, (are written).0 past))
    ]

-- there is one at least
pub some_slice : (checkpoint : List ℕ) (slices : ℕ) → AreSlicesOf checkpoint slices → 0 < slices
some_slice checkpoint slices are =
    elim (cases_lt 0 slices) [
      | inl some ↦ some
      | inr none ↦ absurd (omega (arith, (are 0).1 none))
    ]

-- all of them are the header and the checkpoint
pub all_slices : (checkpoint : List ℕ) (slices : ℕ) → AreSlicesOf checkpoint slices
    → take (slices * 65536) (with_header checkpoint) ≡ with_header checkpoint
all_slices checkpoint slices are =
    take_all (slices * 65536) (with_header checkpoint)
    (omega (arith, (are slices).1 (omega arith), length-with_header checkpoint))

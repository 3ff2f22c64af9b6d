-- A bank that is ended behind its checkpoint reads as the checkpoint and the records that were copied.
use Rattle.std.proofs.Common.{◌≡◌, ℕ, suc, ◌+◌, ◌^◌, ◌<◌, List, [], ◌∷◌, ◌++◌, length, map, All, refl, sym, ◌∙◌, ap}
use Rattle.std.proofs.Common.{arith, length-append}
use Rattle.std.specs.List.{sum_by}
use Rattle.std.proofs.lemmas.List.{append-nil, append_assoc}
use Rattle.std.proofs.lemmas.List.Concat.{flat_map-cons}
use Rattle.std.proofs.lemmas.List.Sums.{sum_by-cons}
use Rattle.byteorder.specs.Endian.{big_bytes, big_number}
use Rattle.byteorder.specs.Numbers.{big_number-reads_back, length-bytes_high_first}
use Rattle.bank_journal.specs.Bank.{AreRecords, BeginsRecord, HasContent, IsBodyLength, frame_of, gate_of}
use Rattle.bank_pair.specs.Copying.{record_of, records_of}
use Rattle.bank_pair.specs.Pair.{AreFramed}
use Rattle.bank_pair.specs.Saving.{with_header}
use Rattle.bank_pair.proofs.Copied.{no_records}
use Rattle.bank_pair.proofs.Written.{header_is}

-- a number in its bytes
counted : (n x : ℕ) → x < 256 ^ n → big_number n (big_bytes n x) ≡ x
counted n x fits = ap (big_number n) (sym (append-nil (big_bytes n x))) ∙ big_number-reads_back n x [] fits

-- ---- records

records_cons : (body : List ℕ) (bodies : List (List ℕ))
    → records_of (body ∷ bodies) ≡ record_of body ++ records_of bodies
unfolding records_of
records_cons body bodies = flat_map-cons record_of body bodies

begins : (body : List ℕ) (bodies : List (List ℕ)) → IsBodyLength (length body)
    → BeginsRecord (records_of (body ∷ bodies) ++ 0 ∷ []) body (records_of bodies ++ 0 ∷ [])
begins body bodies fits =
    let size = big_bytes 4 (length body) in
    let more = records_of bodies ++ 0 ∷ [] in
    record {
      gate = 1;
      size = size;
      parts = ap (λ (l : List ℕ). l ++ 0 ∷ []) (records_cons body bodies)
          ∙ append_assoc (record_of body) (records_of bodies) (0 ∷ [])
          ∙ ap (λ (l : List ℕ). 1 ∷ l) (append_assoc size body more);
      opened = refl;
      four = length-bytes_high_first 4 (length body);
      counted = counted 4 (length body) fits;
    }

pub are_records : (bodies : List (List ℕ)) → All (λ body. IsBodyLength (length body)) bodies
    → AreRecords (records_of bodies ++ 0 ∷ []) bodies (0 ∷ [])
are_records [] fit = ap (λ (l : List ℕ). l ++ 0 ∷ []) no_records
are_records (body ∷ bodies) fit = (
  records_of bodies ++ 0 ∷ [],
  begins body bodies (fit 0 [] (omega arith)),
  are_records bodies (λ k d within. fit (suc k) d (omega arith)),
)

-- ---- the whole bank

pub has_saved : (checkpoint : List ℕ) (bodies : List (List ℕ)) → length checkpoint < 256 ^ 7
    → All (λ body. IsBodyLength (length body)) bodies
    → HasContent (with_header checkpoint ++ (records_of bodies ++ 0 ∷ []))
    (record { checkpoint = checkpoint; bodies = bodies })
has_saved checkpoint bodies fits fit =
    let size = big_bytes 7 (length checkpoint) in
    let records = records_of bodies ++ 0 ∷ [] in
    record {
      size = size;
      records = records;
      last = 0 ∷ [];
      parts = ap (λ (l : List ℕ). l ++ records) (header_is checkpoint)
          ∙ ap (λ (l : List ℕ). 0 ∷ l) (append_assoc size checkpoint records);
      seven = length-bytes_high_first 7 (length checkpoint);
      counted = counted 7 (length checkpoint) fits;
      bodies = are_records bodies fit;
      shut = record { gate = 0; behind = []; parts = refl; closed = omega arith };
    }

-- ---- where its gate stands

length-frame : (body : List ℕ) → length (frame_of body) ≡ 5 + length body
length-frame body =
    omega (
      arith,
      length-append (big_bytes 4 (length body)) (body ++ 0 ∷ []),
      length-append body (0 ∷ []),
      length-bytes_high_first 4 (length body),
    )

abbrev size_of : List ℕ → ℕ
size_of bytes = length bytes

abbrev grown : List ℕ → ℕ
grown body = 5 + length body

length-frames : (bodies : List (List ℕ)) → sum_by size_of (map frame_of bodies) ≡ sum_by grown bodies
length-frames [] = refl
length-frames (body ∷ bodies) =
    omega (
      arith,
      sum_by-cons size_of (frame_of body) (map frame_of bodies),
      sum_by-cons grown body bodies,
      length-frame body,
      length-frames bodies,
    )

pub saved_gate : (checkpoint : List ℕ) (frames bodies : List (List ℕ)) → AreFramed frames bodies
    → 8 + length checkpoint + sum_by (λ frame. length frame) frames
    ≡ gate_of (record { checkpoint = checkpoint; bodies = bodies })
saved_gate checkpoint frames bodies are =
    ap (λ (n : ℕ). 8 + length checkpoint + n) (ap (sum_by size_of) are.framed ∙ length-frames bodies)

-- Records copied to the end of a file, one after the other.
use Rattle.std.proofs.Common.{◌≡◌, ℕ, ◌+◌, ◌<◌, ◌≤◌, List, [], ◌∷◌, ◌++◌, length, take, get_or, refl, sym, ◌∙◌, ap}
use Rattle.std.proofs.Common.{arith, length-append, flat_map}
use Rattle.std.proofs.lemmas.List.{length-map, length-take-le, append-nil, append_assoc, get_or-map}
use Rattle.std.proofs.lemmas.List.{take_all, take_at, take_more}
use Rattle.std.proofs.lemmas.List.Concat.{flat_map-append, flat_map-cons}
use Rattle.byteorder.specs.Endian.{big_bytes}
use Rattle.chart_ports.specs.Disk.{with_bytes}
use Rattle.bank_journal.specs.Bank.{frame_of}
use Rattle.bank_pair.specs.Copying.{record_of, records_of}
use Rattle.bank_pair.specs.Pair.{AreFramed}
use Rattle.bank_pair.proofs.Written.{at_end}

-- ---- none

pub no_records : records_of [] ≡ []
unfolding records_of
no_records = refl

-- the closed gate that is written first
pub closed_end : (end : ℕ) (old : List ℕ) → length old ≡ end
    → with_bytes end (0 ∷ []) old ≡ old ++ (records_of [] ++ 0 ∷ [])
closed_end end old ends =
    at_end end (0 ∷ []) old ends ∙ ap (λ (l : List ℕ). old ++ (l ++ 0 ∷ [])) (sym no_records)

pub length-closed_end : (end : ℕ) (old new : List ℕ) → length old ≡ end → new ≡ with_bytes end (0 ∷ []) old
    → length new ≡ end + 1
length-closed_end end old new ends is =
    omega (arith, ap length (is ∙ at_end end (0 ∷ []) old ends), length-append old (0 ∷ []))

-- ---- one more

records_more : (bodies : List (List ℕ)) (i : ℕ) → i < length bodies
    → records_of (take (i + 1) bodies) ≡ records_of (take i bodies) ++ record_of (get_or bodies i [])
unfolding records_of
records_more bodies i within =
    let body = get_or bodies i [] in
    ap (flat_map record_of) (take_more bodies i [] within)
    ∙ flat_map-append record_of (take i bodies) (body ∷ [])
    ∙ ap (λ (l : List ℕ). flat_map record_of (take i bodies) ++ l)
    (flat_map-cons record_of body [] ∙ append-nil (record_of body))

-- an open gate with a frame behind it is a record and a closed gate
frame_is_record : (body : List ℕ) → 1 ∷ frame_of body ≡ record_of body ++ 0 ∷ []
frame_is_record body = ap (λ (l : List ℕ). 1 ∷ l) (sym (append_assoc (big_bytes 4 (length body)) body (0 ∷ [])))

frame_at : (frames bodies : List (List ℕ)) (i : ℕ) → AreFramed frames bodies → i < length bodies
    → get_or frames i [] ≡ frame_of (get_or bodies i [])
frame_at frames bodies i are within =
    ap (λ (l : List (List ℕ)). get_or l i []) are.framed ∙ get_or-map frame_of bodies i [] [] within

pub as_many : (frames bodies : List (List ℕ)) → AreFramed frames bodies → length bodies ≡ length frames
as_many frames bodies are = sym (ap length are.framed ∙ length-map bodies frame_of)

-- a file that ends in a closed gate, with one record more
pub copied_more : (first old new frame : List ℕ) (frames bodies : List (List ℕ)) (i gate : ℕ) → AreFramed frames bodies
    → i < length frames → frame ≡ get_or frames i [] → length old ≡ gate + 1
    → old ≡ first ++ (records_of (take i bodies) ++ 0 ∷ []) → new ≡ take gate old ++ 1 ∷ frame
    → new ≡ first ++ (records_of (take (i + 1) bodies) ++ 0 ∷ [])
copied_more first old new frame frames bodies i gate are within frame_is ends old_is new_is =
    let records = records_of (take i bodies) in
    let body = get_or bodies i [] in
    let inside : i < length bodies = omega (arith, as_many frames bodies are) in
    let split : old ≡ (first ++ records) ++ 0 ∷ [] = old_is ∙ sym (append_assoc first records (0 ∷ [])) in
    let size : length (first ++ records) ≡ gate =
    omega (arith, ap length split, length-append (first ++ records) (0 ∷ [])) in
    let front : take gate old ≡ first ++ records =
    ap (take gate) split ∙ take_at (first ++ records) (0 ∷ []) gate size in
    let more : records ++ (record_of body ++ 0 ∷ []) ≡ records_of (take (i + 1) bodies) ++ 0 ∷ [] =
    sym (append_assoc records (record_of body) (0 ∷ []))
    ∙ ap (λ (l : List ℕ). l ++ 0 ∷ []) (sym (records_more bodies i inside)) in
    new_is ∙ ap (λ (l : List ℕ). l ++ 1 ∷ frame) front
    ∙ ap (λ (l : List ℕ). (first ++ records) ++ 1 ∷ l) (frame_is ∙ frame_at frames bodies i are inside)
    ∙ ap (λ (l : List ℕ). (first ++ records) ++ l) (frame_is_record body)
    ∙ append_assoc first records (record_of body ++ 0 ∷ [])
    ∙ ap (λ (l : List ℕ). first ++ l) more

pub length-copied : (old new frame : List ℕ) (gate : ℕ) → length old ≡ gate + 1 → new ≡ take gate old ++ 1 ∷ frame
    → length new ≡ gate + length frame + 1
length-copied old new frame gate ends is =
    omega (
      arith,
      ap length is,
      length-append (take gate old) (1 ∷ frame),
      length-take-le gate old (omega (arith, ends)),
    )

-- ---- all of them

pub copied_all : (first new : List ℕ) (frames bodies : List (List ℕ)) (i : ℕ) → AreFramed frames bodies
    → length frames ≤ i → new ≡ first ++ (records_of (take i bodies) ++ 0 ∷ [])
    → new ≡ first ++ (records_of bodies ++ 0 ∷ [])
copied_all first new frames bodies i are all is =
    is ∙ ap (λ (l : List (List ℕ)). first ++ (records_of l ++ 0 ∷ []))
    (take_all i bodies (omega (arith, as_many frames bodies are)))

-- What is read is the record file that the bytes are, and the record file that bytes are is read; and the same of the first
-- fault.
use Rattle.std.proofs.Common.{◌≡◌, ◌≢◌, ℕ, zero, suc, ◌-◌, ◌+◌, ◌≤◌, ◌<◌, false, List, [], ◌∷◌, ◌++◌, length, take, drop, Result, Ok, Err, refl, sym, ap, ◌∙◌, subst, append_assoc, arith, inl, inr}
use Rattle.std.proofs.Math.Seq.{drop-append_seam}
use Rattle.std.proofs.lemmas.List.{append-nil, length-append, length-drop}
use Rattle.iso8211_leader.specs.Leader.{Frame, frame_of}
use Rattle.iso8211_formats.specs.Layout.{Layout}
use Rattle.iso8211_records.specs.declared.record.RawField.{RawField}
use Rattle.iso8211_records.specs.declared.fault.FileFault.{FileFault}
use Rattle.iso8211_records.specs.FileValue.{FileValue}
use Rattle.iso8211_records.specs.Record.{IsRecord, IsDataRecord, AreDataRecords, IsDescriptiveRecord}
use Rattle.chart_model.specs.Answers.{◌>>=◌}
use Rattle.iso8211_records.specs.Reading.{or_zero, descriptive_record_at, data_record_at, data_records_at, come_to}
use Rattle.iso8211_records.specs.RecordFile.{IsRecordFile, record_file_of, data_records_in}
use Rattle.iso8211_records.specs.Fault.{HasDataFault, HasLaterFault, HasFault}
use Rattle.iso8211_records.proofs.Results.{bind_ok}
use Rattle.iso8211_records.proofs.Records.{data_record-size, records-step, come_to-step, come_to-last, frame-length}
use Rattle.iso8211_records.proofs.HoldLaws.{SpellingLaw, err_bind}
use Rattle.iso8211_records.proofs.DataLaws.{data_record_at-found, data_record_at-again, data_record_at-fault, data_record_at-faulty, descriptive_record_at-found, descriptive_record_at-again, descriptive_record_at-fault, descriptive_record_at-faulty}

pub ok_is : {A : Type 0} {x y : A} → (let r : Result A FileFault = Ok x in r ≡ Ok y) → x ≡ y
ok_is e = cc

-- ---- data records up to the end

data_record-some : (tags : List (List ℕ)) (pairs : List (List ℕ × Layout)) (piece : List ℕ) (fields : List RawField) → IsDataRecord tags pairs piece fields → 25 ≤ length piece
data_record-some tags pairs piece fields h =
    let k : IsRecord tags false piece h.frame h.entries = h.is_record in
    let low = frame-length (take 24 piece) false k.leader in
    let same : (frame_of (take 24 piece)).length ≡ h.frame.length = ap (λ (f : Frame). f.length) (sym k.says) in
    let whole = k.whole in
    omega arith

pub data_records_at-found : (bound : ℕ) (tags : List (List ℕ)) (pairs : List (List ℕ × Layout)) (number at : ℕ) (bytes : List ℕ) (records : List (List RawField)) → data_records_at bound tags pairs number at bytes ≡ Ok records
    → AreDataRecords tags pairs bytes records × (come_to bound tags pairs number at bytes ≡ length records)
unfolding data_records_at come_to
data_records_at-found zero tags pairs number at [] records h = let none : [] ≡ records = ok_is h in rw (← none) (refl, refl)
data_records_at-found (suc bound) tags pairs number at [] records h = let none : [] ≡ records = ok_is h in rw (← none) (refl, refl)
data_records_at-found zero tags pairs number at (byte ∷ bytes) records h = absurd cc
data_records_at-found (suc bound) tags pairs number at (byte ∷ bytes) records h =
    let p = bind_ok (data_record_at tags pairs number at (byte ∷ bytes))
    (λ first. data_records_at bound tags pairs (number + 1) (at + first.1) (drop first.1 (byte ∷ bytes)) >>= λ others. Ok (first.0 ∷ others)) records h in
    let q = bind_ok (data_records_at bound tags pairs (number + 1) (at + p.0.1) (drop p.0.1 (byte ∷ bytes))) (λ others. Ok (p.0.0 ∷ others)) records p.2 in
    let is : p.0.0 ∷ q.0 ≡ records = ok_is q.2 in
    let d = data_record_at-found tags pairs number at (byte ∷ bytes) p.0.0 p.0.1 p.1 in
    let others = data_records_at-found bound tags pairs (number + 1) (at + p.0.1) (drop p.0.1 (byte ∷ bytes)) q.0 q.1 in
    let count : or_zero (λ (x : List RawField × ℕ). come_to bound tags pairs (number + 1) (at + x.1) (drop x.1 (byte ∷ bytes))) (data_record_at tags pairs number at (byte ∷ bytes)) ≡ length q.0 =
    ap (or_zero (λ (x : List RawField × ℕ). come_to bound tags pairs (number + 1) (at + x.1) (drop x.1 (byte ∷ bytes)))) p.1 ∙ others.1 in
    let len : suc (length q.0) ≡ length records = ap length is in (
      subst (λ (rs : List (List RawField)). AreDataRecords tags pairs (byte ∷ bytes) rs) is
          (d.piece, d.rest, d.parts, d.is_record, subst (λ (l : List ℕ). AreDataRecords tags pairs l q.0) (sym d.rest_is) others.0),
      omega arith,
    )

-- reading goes over whole data records
pub data_records_at-skip : (tags : List (List ℕ)) (pairs : List (List ℕ × Layout)) (number at : ℕ) (before rest : List ℕ) (records : List (List RawField)) → AreDataRecords tags pairs before records
    → (data_records_at (length (before ++ rest)) tags pairs number at (before ++ rest)
    ≡ (data_records_at (length rest) tags pairs (number + length records) (at + length before) rest >>= λ others. Ok (records ++ others)))
    × (come_to (length (before ++ rest)) tags pairs number at (before ++ rest) ≡ length records + come_to (length rest) tags pairs (number + length records) (at + length before) rest)
data_records_at-skip tags pairs number at before rest [] h =
    let n : number + 0 ≡ number = omega arith in
    let a : at + 0 ≡ at = omega arith in
    rw (h, n, a) (keep (data_records_at (length rest) tags pairs number at rest), omega arith)
  where
    keep : (r : Result (List (List RawField)) FileFault) → r ≡ (r >>= λ others. Ok others)
    keep (Ok records) = refl
    keep (Err fault) = refl
data_records_at-skip tags pairs number at before rest (fields ∷ records) h =
    let size : ℕ = length h.0 in
    let some = data_record-some tags pairs h.0 fields h.3 in
    let parts : before ++ rest ≡ h.0 ++ (h.1 ++ rest) = ap (λ (l : List ℕ). l ++ rest) h.2 ∙ append_assoc h.0 h.1 rest in
    let long : length (before ++ rest) ≡ length h.0 + length (h.1 ++ rest) = ap length parts ∙ length-append h.0 (h.1 ++ rest) in
    let first : data_record_at tags pairs number at (before ++ rest) ≡ Ok (fields, length h.0) = ap (data_record_at tags pairs number at) parts ∙ data_record_at-again tags pairs number at h.0 (h.1 ++ rest) fields h.3 in
    let after : drop (length h.0) (before ++ rest) ≡ h.1 ++ rest = ap (λ (l : List ℕ). drop (length h.0) l) parts ∙ drop-append_seam h.0 (h.1 ++ rest) in
    let step = records-step tags pairs number at (before ++ rest) fields (length h.0) (omega arith) first in
    let count = come_to-step tags pairs number at (before ++ rest) fields (length h.0) (omega arith) first in
    let others = data_records_at-skip tags pairs (number + 1) (at + length h.0) h.1 rest records h.4 in
    let n : number + 1 + length records ≡ number + suc (length records) = omega arith in
    let a : at + length h.0 + length h.1 ≡ at + length before = let len : length before ≡ length h.0 + length h.1 = ap length h.2 ∙ length-append h.0 h.1 in omega arith in (
      step ∙ rw (after, others.0, n, a) (put-first fields records (data_records_at (length rest) tags pairs (number + suc (length records)) (at + length before) rest)),
      count ∙ rw (after, others.1, n, a) (omega arith),
    )
  where
    put-first : (fields : List RawField) (records : List (List RawField)) (r : Result (List (List RawField)) FileFault)
        → ((r >>= λ others. Ok (records ++ others)) >>= λ others. Ok (fields ∷ others)) ≡ (r >>= λ others. Ok ((fields ∷ records) ++ others))
    put-first fields records (Ok others) = refl
    put-first fields records (Err fault) = refl

pub data_records_at-again : (tags : List (List ℕ)) (pairs : List (List ℕ × Layout)) (number at : ℕ) (bytes : List ℕ) (records : List (List RawField)) → AreDataRecords tags pairs bytes records
    → data_records_at (length bytes) tags pairs number at bytes ≡ Ok records
unfolding data_records_at
data_records_at-again tags pairs number at bytes records h =
    let skip = data_records_at-skip tags pairs number at bytes [] records h in
    sym (ap (λ (l : List ℕ). data_records_at (length l) tags pairs number at l) (append-nil bytes)) ∙ skip.0 ∙ ap (λ (rs : List (List RawField)). Ok rs) (append-nil records)

-- ---- the first fault of data records

pub record IsFaultAt (tags : List (List ℕ)) (pairs : List (List ℕ × Layout)) (number at : ℕ) (bytes : List ℕ) (fault : FileFault) (count : ℕ) : Type 0 where
  pub before : List ℕ
  pub rest : List ℕ
  pub records : List (List RawField)
  pub parts : bytes ≡ before ++ rest
  pub are_records : AreDataRecords tags pairs before records
  pub left : rest ≢ []
  pub breaks : HasDataFault tags pairs (number + length records) (at + length before) rest fault
  pub count_is : count ≡ length records + 1

records-err : (tags : List (List ℕ)) (pairs : List (List ℕ × Layout)) (number at : ℕ) (bytes : List ℕ) (fault : FileFault) → 0 < length bytes → data_record_at tags pairs number at bytes ≡ Err fault
    → data_records_at (length bytes) tags pairs number at bytes ≡ Err fault
unfolding data_records_at
records-err tags pairs number at [] fault some bad = absurd (omega arith)
records-err tags pairs number at (byte ∷ bytes) fault some bad = rw bad refl

-- a fault at once
fault-here : (tags : List (List ℕ)) (pairs : List (List ℕ × Layout)) (number at : ℕ) (bytes : List ℕ) (fault : FileFault) (count : ℕ) → 0 < length bytes → data_record_at tags pairs number at bytes ≡ Err fault → count ≡ 1
    → IsFaultAt tags pairs number at bytes fault count
fault-here tags pairs number at bytes fault count some bad one =
    let n : number ≡ number + 0 = omega arith in
    let a : at ≡ at + 0 = omega arith in
    record {
      before = [];
      rest = bytes;
      records = [];
      parts = refl;
      are_records = refl;
      left = λ e. (let none : length bytes ≡ 0 = ap length e in omega arith);
      breaks = subst (λ m. HasDataFault tags pairs m (at + 0) bytes fault) n (subst (λ m. HasDataFault tags pairs number m bytes fault) a (data_record_at-fault tags pairs number at bytes fault bad));
      count_is = one;
    }

-- or after a whole data record
fault-later : (tags : List (List ℕ)) (pairs : List (List ℕ × Layout)) (number at : ℕ) (bytes : List ℕ) (fields : List RawField) (size : ℕ) (fault : FileFault) (later count : ℕ) → data_record_at tags pairs number at bytes ≡ Ok (fields, size)
    → IsFaultAt tags pairs (number + 1) (at + size) (drop size bytes) fault later → count ≡ 1 + later → IsFaultAt tags pairs number at bytes fault count
fault-later tags pairs number at bytes fields size fault later count read f more =
    let d = data_record_at-found tags pairs number at bytes fields size read in
    let n : number + 1 + length f.records ≡ number + suc (length f.records) = omega arith in
    let a : at + size + length f.before ≡ at + length (d.piece ++ f.before) = let len = length-append d.piece f.before in let size_is = d.size_is in omega arith in
    record {
      before = d.piece ++ f.before;
      rest = f.rest;
      records = fields ∷ f.records;
      parts = d.parts ∙ ap (λ (l : List ℕ). d.piece ++ l) (d.rest_is ∙ f.parts) ∙ sym (append_assoc d.piece f.before f.rest);
      are_records = (d.piece, f.before, refl, d.is_record, f.are_records);
      left = f.left;
      breaks = subst (λ m. HasDataFault tags pairs m (at + length (d.piece ++ f.before)) f.rest fault) n (subst (λ m. HasDataFault tags pairs (number + 1 + length f.records) m f.rest fault) a f.breaks);
      count_is = let c = f.count_is in omega arith;
    }

pub data_records_at-fault : (bound : ℕ) (tags : List (List ℕ)) (pairs : List (List ℕ × Layout)) (number at : ℕ) (bytes : List ℕ) (fault : FileFault) → length bytes ≤ bound → data_records_at bound tags pairs number at bytes ≡ Err fault
    → IsFaultAt tags pairs number at bytes fault (come_to bound tags pairs number at bytes)
unfolding data_records_at come_to
data_records_at-fault zero tags pairs number at [] fault enough h = absurd cc
data_records_at-fault (suc bound) tags pairs number at [] fault enough h = absurd cc
data_records_at-fault zero tags pairs number at (byte ∷ bytes) fault enough h = absurd (omega arith)
data_records_at-fault (suc bound) tags pairs number at (byte ∷ bytes) fault enough h =
    elim (err_bind (data_record_at tags pairs number at (byte ∷ bytes))
    (λ first. data_records_at bound tags pairs (number + 1) (at + first.1) (drop first.1 (byte ∷ bytes)) >>= λ others. Ok (first.0 ∷ others)) fault h) [
      | inl bad ↦ fault-here tags pairs number at (byte ∷ bytes) fault _ (omega arith) bad
          (ap (λ n. 1 + n) (ap (or_zero (λ (x : List RawField × ℕ). come_to bound tags pairs (number + 1) (at + x.1) (drop x.1 (byte ∷ bytes)))) bad))
      | inr good ↦
          elim (err_bind (data_records_at bound tags pairs (number + 1) (at + good.0.1) (drop good.0.1 (byte ∷ bytes))) (λ others. Ok (good.0.0 ∷ others)) fault good.2) [
            | inl later ↦
                (let size = data_record-size tags pairs number at (byte ∷ bytes) good.0.0 good.0.1 good.1 in
                let short : length (drop good.0.1 (byte ∷ bytes)) ≡ length (byte ∷ bytes) - good.0.1 = length-drop good.0.1 (byte ∷ bytes) in
                let f = data_records_at-fault bound tags pairs (number + 1) (at + good.0.1) (drop good.0.1 (byte ∷ bytes)) fault (omega arith) later in
                fault-later tags pairs number at (byte ∷ bytes) good.0.0 good.0.1 fault (come_to bound tags pairs (number + 1) (at + good.0.1) (drop good.0.1 (byte ∷ bytes))) _ good.1 f
                (ap (λ n. 1 + n) (ap (or_zero (λ (x : List RawField × ℕ). come_to bound tags pairs (number + 1) (at + x.1) (drop x.1 (byte ∷ bytes)))) good.1)))
            | inr none ↦ absurd (let no = none.2 in cc)
          ]
    ]

pub data_records_at-faulty : (tags : List (List ℕ)) (pairs : List (List ℕ × Layout)) (number at : ℕ) (bytes : List ℕ) (fault : FileFault) (count : ℕ) → IsFaultAt tags pairs number at bytes fault count
    → (data_records_at (length bytes) tags pairs number at bytes ≡ Err fault) × (come_to (length bytes) tags pairs number at bytes ≡ count)
data_records_at-faulty tags pairs number at bytes fault count h =
    let skip = data_records_at-skip tags pairs number at h.before h.rest h.records h.are_records in
    let bad = data_record_at-faulty tags pairs (number + length h.records) (at + length h.before) h.rest fault h.breaks in
    let some = not-empty h.rest h.left in
    let here = records-err tags pairs (number + length h.records) (at + length h.before) h.rest fault some bad in
    let last = come_to-last fault tags pairs (number + length h.records) (at + length h.before) h.rest some bad in (
      ap (λ (l : List ℕ). data_records_at (length l) tags pairs number at l) h.parts ∙ skip.0 ∙ ap (λ (r : Result (List (List RawField)) FileFault). r >>= λ others. Ok (h.records ++ others)) here,
      ap (λ (l : List ℕ). come_to (length l) tags pairs number at l) h.parts ∙ skip.1 ∙ ap (λ n. length h.records + n) last ∙ sym h.count_is,
    )
  where
    not-empty : (l : List ℕ) → l ≢ [] → 0 < length l
    not-empty [] some = absurd (some refl)
    not-empty (x ∷ l) some = omega arith

-- ---- whole files

after-first : (first rest : List ℕ) → length (first ++ rest) - length rest ≡ length first
after-first first rest = omega (arith, length-append first rest)

pub record_file-found : SpellingLaw → (tags : List (List ℕ)) (bytes : List ℕ) (file : FileValue) → record_file_of tags bytes ≡ Ok file → IsRecordFile tags bytes file × (data_records_in tags bytes ≡ length file.records)
unfolding record_file_of data_records_in
record_file-found law tags bytes file h =
    let p = bind_ok (descriptive_record_at tags bytes)
    (λ first. data_records_at (length first.1) tags first.0 1 (length bytes - length first.1) first.1 >>= λ records. Ok (record { descriptors = first.0; records = records })) file h in
    let q = bind_ok (data_records_at (length p.0.1) tags p.0.0 1 (length bytes - length p.0.1) p.0.1) (λ records. Ok (record { descriptors = p.0.0; records = records })) file p.2 in
    let found : FileValue = record { descriptors = p.0.0; records = q.0 } in
    let is : found ≡ file = ok_is q.2 in
    let d = descriptive_record_at-found law tags bytes p.0.0 p.0.1 p.1 in
    let r = data_records_at-found (length p.0.1) tags p.0.0 1 (length bytes - length p.0.1) p.0.1 q.0 q.1 in
    let whole : IsRecordFile tags bytes found = record { first = d.piece; rest = p.0.1; pieces = d.parts; descriptive = d.is_record; data_records = r.0 } in (
      subst (λ (f : FileValue). IsRecordFile tags bytes f) is whole,
      ap (or_zero (λ (first : List (List ℕ × Layout) × List ℕ). come_to (length first.1) tags first.0 1 (length bytes - length first.1) first.1)) p.1 ∙ r.1 ∙ ap (λ (f : FileValue). length f.records) is,
    )

pub record_file-again : SpellingLaw → (tags : List (List ℕ)) (bytes : List ℕ) (file : FileValue) → IsRecordFile tags bytes file → record_file_of tags bytes ≡ Ok file
unfolding record_file_of
record_file-again law tags bytes file h =
    let first : descriptive_record_at tags bytes ≡ Ok (file.descriptors, h.rest) = ap (descriptive_record_at tags) h.pieces ∙ descriptive_record_at-again law tags h.first h.rest file.descriptors h.descriptive in
    rw (first, data_records_at-again tags file.descriptors 1 (length bytes - length h.rest) h.rest file.records h.data_records) refl

pub record_file-fault : SpellingLaw → (tags : List (List ℕ)) (bytes : List ℕ) (fault : FileFault) → record_file_of tags bytes ≡ Err fault → HasFault tags bytes (data_records_in tags bytes) fault
unfolding record_file_of data_records_in
record_file-fault law tags bytes fault h =
    elim (err_bind (descriptive_record_at tags bytes)
    (λ first. data_records_at (length first.1) tags first.0 1 (length bytes - length first.1) first.1 >>= λ records. Ok (record { descriptors = first.0; records = records })) fault h) [
      | inl bad ↦ inl (ap (or_zero (λ (first : List (List ℕ × Layout) × List ℕ). come_to (length first.1) tags first.0 1 (length bytes - length first.1) first.1)) bad, descriptive_record_at-fault law tags bytes fault bad)
      | inr good ↦
          elim (err_bind (data_records_at (length good.0.1) tags good.0.0 1 (length bytes - length good.0.1) good.0.1) (λ records. Ok (record { descriptors = good.0.0; records = records })) fault good.2) [
            | inl bad ↦
                (let d = descriptive_record_at-found law tags bytes good.0.0 good.0.1 good.1 in
                let f = data_records_at-fault (length good.0.1) tags good.0.0 1 (length bytes - length good.0.1) good.0.1 fault (omega arith) bad in
                let count = ap (or_zero (λ (first : List (List ℕ × Layout) × List ℕ). come_to (length first.1) tags first.0 1 (length bytes - length first.1) first.1)) good.1 in
                let at_is : length bytes - length good.0.1 ≡ length d.piece = ap (λ (l : List ℕ). length l - length good.0.1) d.parts ∙ after-first d.piece good.0.1 in
                inr (later d.piece good.0.1 good.0.0 _ d.parts d.is_record _ f (count ∙ f.count_is) at_is))
            | inr none ↦ absurd (let no = none.2 in cc)
          ]
    ]
  where
    later : (first rest : List ℕ) (pairs : List (List ℕ × Layout)) (number : ℕ) → bytes ≡ first ++ rest → IsDescriptiveRecord tags first pairs → (count : ℕ) → (f : IsFaultAt tags pairs 1 (length bytes - length rest) rest fault count)
        → number ≡ length f.records + 1 → length bytes - length rest ≡ length first → HasLaterFault tags bytes number fault
    later first rest pairs number parts is count f number_is at_is =
        let n : 1 + length f.records ≡ number = omega arith in
        let a : length bytes - length rest + length f.before ≡ length first + length f.before = ap (λ m. m + length f.before) at_is in
        record {
          first = first;
          before = f.before;
          rest = f.rest;
          descriptors = pairs;
          records = f.records;
          pieces = parts ∙ ap (λ (l : List ℕ). first ++ l) f.parts;
          descriptive = is;
          data_records = f.are_records;
          left = f.left;
          number_is = number_is;
          breaks = subst (λ m. HasDataFault tags pairs m (length first + length f.before) f.rest fault) n (subst (λ m. HasDataFault tags pairs (1 + length f.records) m f.rest fault) a f.breaks);
        }

pub record_file-faulty : SpellingLaw → (tags : List (List ℕ)) (bytes : List ℕ) (number : ℕ) (fault : FileFault) → HasFault tags bytes number fault → (record_file_of tags bytes ≡ Err fault) × (data_records_in tags bytes ≡ number)
unfolding record_file_of data_records_in
record_file-faulty law tags bytes number fault (inl h) =
    let bad = descriptive_record_at-faulty law tags bytes fault h.1 in
    (rw bad refl, rw (bad, h.0) refl)
record_file-faulty law tags bytes number fault (inr h) =
    let rest : List ℕ = h.before ++ h.rest in
    let first : descriptive_record_at tags bytes ≡ Ok (h.descriptors, h.before ++ h.rest) = ap (descriptive_record_at tags) h.pieces ∙ descriptive_record_at-again law tags h.first (h.before ++ h.rest) h.descriptors h.descriptive in
    let at_is : length bytes - length (h.before ++ h.rest) ≡ length h.first = ap (λ (l : List ℕ). length l - length (h.before ++ h.rest)) h.pieces ∙ after-first h.first (h.before ++ h.rest) in
    let n : number ≡ 1 + length h.records = let is = h.number_is in omega arith in
    let a : length h.first + length h.before ≡ length bytes - length (h.before ++ h.rest) + length h.before = ap (λ m. m + length h.before) (sym at_is) in
    let f : IsFaultAt tags h.descriptors 1 (length bytes - length (h.before ++ h.rest)) (h.before ++ h.rest) fault number = record {
      before = h.before;
      rest = h.rest;
      records = h.records;
      parts = refl;
      are_records = h.data_records;
      left = h.left;
      breaks = subst (λ m. HasDataFault tags h.descriptors m (length bytes - length (h.before ++ h.rest) + length h.before) h.rest fault) n (subst (λ m. HasDataFault tags h.descriptors number m h.rest fault) a h.breaks);
      count_is = h.number_is;
    } in
    let bad = data_records_at-faulty tags h.descriptors 1 (length bytes - length (h.before ++ h.rest)) (h.before ++ h.rest) fault number f in
    (rw (first, bad.0) refl, rw (first, bad.1) refl)

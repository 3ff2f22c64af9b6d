-- A file of records has no more data records than bytes.
use Rattle.std.proofs.Common.{◌≡◌, ℕ, ◌<◌, ◌≤◌, List, [], ◌∷◌, length, get_or, ap, arith, length-append}
use Rattle.iso8211_formats.specs.Layout.{Layout}
use Rattle.iso8211_records.specs.declared.record.RawField.{RawField}
use Rattle.iso8211_records.specs.FileValue.{FileValue}
use Rattle.iso8211_records.specs.Record.{AreDataRecords}
use Rattle.iso8211_records.specs.RecordFile.{IsRecordFile}

some_bytes : (bytes : List ℕ) (k : ℕ) → get_or bytes k 0 ≡ 30 → 1 ≤ length bytes
some_bytes [] k e = absurd (omega arith)
some_bytes (x ∷ xs) k e = omega arith

records_fit : (tags : List (List ℕ)) (descriptors : List (List ℕ × Layout)) (bytes : List ℕ)
    (records : List (List RawField))
    → AreDataRecords tags descriptors bytes records → length records ≤ length bytes
records_fit tags descriptors bytes [] h = omega arith
records_fit tags descriptors bytes (fields ∷ records) (piece, rest, parts, is, more) =
    let one : 1 ≤ length piece = some_bytes piece _ is.is_record.closing in
    let others : length records ≤ length rest = records_fit tags descriptors rest records more in
    omega (arith, ap length parts, length-append piece rest)

pub few_records : (tags : List (List ℕ)) (bytes : List ℕ) (file : FileValue) → IsRecordFile tags bytes file
    → length bytes ≤ 8388608
    → length file.records < 4294967296
few_records tags bytes file is short =
    let fit : length file.records ≤ length is.rest =
    records_fit tags file.descriptors is.rest file.records is.data_records in
    omega (arith, ap length is.pieces, length-append is.first is.rest)

-- Files of records (ISO/IEC 8211): a data descriptive record, and data records.
use Rattle.std.specs.Prelude.{◌≡◌, ℕ, ◌-◌, List, ◌++◌, length, Result, Ok}
use Rattle.iso8211_records.specs.declared.fault.FileFault.{FileFault}
use Rattle.iso8211_records.specs.FileValue.{FileValue}
use Rattle.iso8211_records.specs.Record.{IsDescriptiveRecord, AreDataRecords}
use Rattle.chart_model.specs.Answers.{◌>>=◌}
use Rattle.iso8211_records.specs.Reading.{descriptive_record_at, data_records_at, come_to, or_zero}

-- the bytes are a data descriptive record and then data records, and this is what they hold
pub record IsRecordFile (tags : List (List ℕ)) (bytes : List ℕ) (file : FileValue) : Type 0 where
  pub first : List ℕ
  pub rest : List ℕ
  pub pieces : bytes ≡ first ++ rest
  pub descriptive : IsDescriptiveRecord tags first file.descriptors
  pub data_records : AreDataRecords tags file.descriptors rest file.records

-- the file that the bytes are, or their first fault
unfoldable pub record_file_of : List (List ℕ) → List ℕ → Result FileValue FileFault
record_file_of tags bytes = do
  first ← descriptive_record_at tags bytes
  records ← data_records_at (length first.1) tags first.0 1 (length bytes - length first.1) first.1
  Ok (record { descriptors = first.0; records = records })

-- how many data records are come to in reading the bytes
unfoldable pub data_records_in : List (List ℕ) → List ℕ → ℕ
data_records_in tags bytes =
    or_zero (λ first. come_to (length first.1) tags first.0 1 (length bytes - length first.1) first.1)
    (descriptive_record_at tags bytes)

-- What follows where bytes are a data set.
use Rattle.std.proofs.Common.{◌≡◌, ℕ, List, Result, Ok, Err, ap}
use Rattle.chart_model.specs.Answers.{◌>>=◌, or_fault_as}
use Rattle.chart_model.specs.Dataset.{DatasetValue}
use Rattle.iso8211_records.specs.FileValue.{FileValue}
use Rattle.iso8211_records.specs.Kinds.{layout_at}
use Rattle.iso8211_records.specs.RecordFile.{record_file_of}
use Rattle.iso8211_records.specs.declared.fault.FileFault.{FileFault}
use Rattle.s57_records.specs.Dataset.{dataset_of}
use Rattle.s57_records.specs.LayoutReadings.{all_subfields}
use Rattle.s57_records.specs.declared.fault.DatasetFault.{DatasetFault}
use Rattle.update_sequence.specs.Reading.{tags_read, fault_of_file, fault_of_records, data_set_of, data_set_in}

pub ok_is : {A E : Type 0} {x y : A} → ◌≡◌ {A = Result A E} (Ok x) (Ok y) → x ≡ y
ok_is e = cc

records-ok : (read : Result DatasetValue DatasetFault) (dataset : DatasetValue) → or_fault_as fault_of_records read ≡ Ok dataset → read ≡ Ok dataset
records-ok (Ok x) dataset e = ap Ok (ok_is e)
records-ok (Err fault) dataset e = absurd cc

file-ok : (read : Result FileValue FileFault) (dataset : DatasetValue) → (or_fault_as fault_of_file read >>= data_set_of) ≡ Ok dataset →
    (file : FileValue) × (dataset_of (all_subfields (layout_at file.descriptors) 1 file.records) ≡ Ok dataset)
file-ok (Ok file) dataset e = (file, records-ok _ dataset e)
file-ok (Err fault) dataset e = absurd cc

-- a data set is that of a file of records
pub data_set_in-ok : (bytes : List ℕ) (dataset : DatasetValue) → data_set_in bytes ≡ Ok dataset →
    (file : FileValue) × (dataset_of (all_subfields (layout_at file.descriptors) 1 file.records) ≡ Ok dataset)
unfolding data_set_in
data_set_in-ok bytes dataset e = file-ok (record_file_of tags_read bytes) dataset e

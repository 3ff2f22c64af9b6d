-- What a fault of a layer below is above.
use Rattle.std.proofs.Common.{◌≡◌, Result, Err, ap}
use Rattle.chart_model.specs.Dataset.{DatasetValue}
use Rattle.chart_model.specs.Answers.{◌>>=◌, or_fault_as}
use Rattle.iso8211_records.specs.FileValue.{FileValue}
use Rattle.iso8211_records.specs.declared.fault.FileFault.{FileFault}
use Rattle.iso8211_records.specs.Answers as file
use Rattle.s57_records.specs.declared.fault.DatasetFault.{DatasetFault}
use Rattle.s57_records.specs.Answers as records
use Rattle.update_sequence.specs.Answers.{GivesRead}
use Rattle.update_sequence.specs.Reading.{fault_of_file, fault_of_records, data_set_of}

pub file_fails : (fault : FileFault) (read : Result FileValue FileFault) → file.Fails fault read → GivesRead {X = DatasetValue} (Err (fault_of_file fault)) (or_fault_as fault_of_file read >>= data_set_of)
file_fails fault read h =
    λ differs. ap (λ (r : Result FileValue FileFault). or_fault_as fault_of_file r >>= data_set_of)
    (h (λ e. differs (ap fault_of_file e)))

pub records_fail : (fault : DatasetFault) (read : Result DatasetValue DatasetFault) → records.Fails fault read → GivesRead {X = DatasetValue} (Err (fault_of_records fault)) (or_fault_as fault_of_records read)
records_fail fault read h = λ differs. ap (or_fault_as fault_of_records) (h (λ e. differs (ap fault_of_records e)))

pub err_is : {A E : Type 0} {x y : E} → ◌≡◌ {A = Result A E} (Err x) (Err y) → x ≡ y
err_is e = cc

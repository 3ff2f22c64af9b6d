-- The data set that the bytes of a cell file are, or the first fault.
use Rattle.std.specs.Prelude.{ℕ, List, [], ◌∷◌, codes, Result}
use Rattle.chart_model.specs.Answers.{◌>>=◌, or_fault_as}
use Rattle.chart_model.specs.Dataset.{DatasetValue}
use Rattle.iso8211_records.specs.FileValue.{FileValue}
use Rattle.iso8211_records.specs.RecordFile.{record_file_of}
use Rattle.iso8211_records.specs.Kinds.{layout_at}
use Rattle.iso8211_records.specs.declared.fault.FileFault.{FileFault}
use Rattle.iso8211_records.specs.declared.fault.FileFault.TheVariants as of_file
use Rattle.s57_records.specs.Dataset.{dataset_of}
use Rattle.s57_records.specs.LayoutReadings.{all_subfields}
use Rattle.s57_records.specs.declared.fault.DatasetFault.{DatasetFault}
use Rattle.s57_records.specs.declared.fault.DatasetFault.TheVariants as of_records
use Rattle.update_sequence.specs.declared.fault.ReadFault.{ReadFault}
use Rattle.update_sequence.specs.declared.fault.ReadFault.TheVariants.{File, Dataset, NoMemory}

-- the tags of the fields that are read (S-57 Part 3)
abbrev pub tags_read : List (List ℕ)
tags_read =
    codes "DSID" ∷ codes "DSSI" ∷ codes "DSPM" ∷ codes "VRID" ∷ codes "ATTV" ∷ codes "VRPC" ∷ codes "VRPT"
    ∷ codes "SGCC" ∷ codes "SG2D" ∷ codes "SG3D"
    ∷ codes "FRID" ∷ codes "FOID" ∷ codes "ATTF" ∷ codes "FFPC" ∷ codes "FFPT" ∷ codes "FSPC" ∷ codes "FSPT" ∷ []

-- the fault of a file of records, as one of a cell file
abbrev pub fault_of_file : FileFault → ReadFault
fault_of_file of_file.NoMemory = NoMemory
fault_of_file fault = File fault

-- the fault of its records
abbrev pub fault_of_records : DatasetFault → ReadFault
fault_of_records of_records.NoMemory = NoMemory
fault_of_records fault = Dataset fault

-- the data set of a file's records, or the fault of the records
abbrev pub data_set_of : FileValue → Result DatasetValue ReadFault
data_set_of file = or_fault_as fault_of_records (dataset_of (all_subfields (layout_at file.descriptors) 1 file.records))

-- the data set that the bytes of a cell file are, or the fault of the file
unfoldable pub data_set_in : List ℕ → Result DatasetValue ReadFault
data_set_in bytes = do
  file ← or_fault_as fault_of_file (record_file_of tags_read bytes)
  data_set_of file

-- What a file says of itself: what the DSID field of its first data record says.
use Rattle.std.specs.Prelude.{ℕ, Bool, List, [], ◌∷◌, length, Result, Ok, Err, if◌then◌else◌}
use Rattle.std.specs.List.{list_any}
use Rattle.std.specs.Str.{bytes_eq}
use Rattle.iso8211_records.specs.Tags.{DSID}
use Rattle.iso8211_records.specs.FileValue.{FileValue}
use Rattle.iso8211_records.specs.RecordFile.{record_file_of}
use Rattle.iso8211_records.specs.declared.fault.FileFault.{FileFault}
use Rattle.iso8211_records.specs.declared.record.RawField.{RawField}
use Rattle.s57_fields.specs.Files.{record_at}
use Rattle.s57_fields.specs.Dsid.{dsid_at}
use Rattle.s57_subfields.specs.Texts.{key_in}
use Rattle.s57_fields.specs.declared.dsid.Dsid.{Dsid}
use Rattle.s57_records.specs.LayoutReadings.{or_dataset_fault}
use Rattle.s57_records.specs.declared.fault.DatasetFault.{DatasetFault}
use Rattle.s57_records.specs.declared.fault.DatasetFault.TheVariants.{NoGeneral}
use Rattle.update_sequence.specs.Reading.{fault_of_file, fault_of_records}
use Rattle.update_sequence.specs.declared.fault.ReadFault.{ReadFault}
use Rattle.update_sequence.specs.declared.info.FileInfo.{FileInfo}

-- the one field that is read
abbrev pub tags_of_info : List (List ℕ)
tags_of_info = DSID ∷ []

-- a data record has a DSID field
abbrev pub has_dsid : List RawField → Bool
has_dsid fields = list_any (λ (field : RawField). bytes_eq field.tag DSID) fields

-- the first data record has one
abbrev pub names_itself : FileValue → Bool
names_itself file = has_dsid (record_at file 1)

-- the DSID field of the first data record
abbrev pub dsid_of : FileValue → Result Dsid DatasetFault
dsid_of file = if names_itself file then or_dataset_fault (dsid_at file 1) else Err NoGeneral

-- what a file of so many data records says of itself
abbrev pub info_of : Dsid → ℕ → FileInfo
info_of dsid records = record { key = key_in dsid.dsnm; edition = dsid.edtn; update = dsid.updn; records = records }

abbrev pub info_by : ℕ → Result Dsid DatasetFault → Result FileInfo ReadFault
info_by records (Ok dsid) = Ok (info_of dsid records)
info_by records (Err fault) = Err (fault_of_records fault)

abbrev pub info_of_file : Result FileValue FileFault → Result FileInfo ReadFault
info_of_file (Ok file) = info_by (length file.records) (dsid_of file)
info_of_file (Err fault) = Err (fault_of_file fault)

-- what the bytes of a file say of it: the file is read for this one tag
unfoldable pub info_in : List ℕ → Result FileInfo ReadFault
info_in bytes = info_of_file (record_file_of tags_of_info bytes)

-- The catalogue that the bytes of a file are, or the first fault.
use Rattle.std.specs.Prelude.{ℕ, List, [], ◌∷◌, Result}
use Rattle.chart_model.specs.Answers.{◌>>=◌, or_fault_as}
use Rattle.iso8211_records.specs.FileValue.{FileValue}
use Rattle.iso8211_records.specs.RecordFile.{record_file_of}
use Rattle.exchange_catalogue.specs.Answers.{fault_of_file, fault_of_field}
use Rattle.exchange_catalogue.specs.Entries.{CATD, entries_of}
use Rattle.exchange_catalogue.specs.declared.entry.Entry.{Entry}
use Rattle.exchange_catalogue.specs.declared.fault.CatalogueFault.{CatalogueFault}

-- the one field that is read
abbrev pub tags_read : List (List ℕ)
tags_read = CATD ∷ []

-- the entries of a file of records, or the first fault of an entry
abbrev pub catalogue_of : FileValue → Result (List Entry) CatalogueFault
catalogue_of file = or_fault_as fault_of_field (entries_of file)

-- the catalogue that the bytes are, or the fault of the file of records
unfoldable pub catalogue_in : List ℕ → Result (List Entry) CatalogueFault
catalogue_in bytes = do
  file ← or_fault_as fault_of_file (record_file_of tags_read bytes)
  catalogue_of file

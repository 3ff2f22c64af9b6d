-- What a fault of a layer below is for a catalogue.
use Rattle.std.proofs.Common.{◌≡◌, List, Result, Err, ap}
use Rattle.chart_model.specs.Answers.{◌>>=◌, or_fault_as}
use Rattle.iso8211_records.specs.FileValue.{FileValue}
use Rattle.iso8211_records.specs.declared.fault.FileFault.{FileFault}
use Rattle.iso8211_records.specs.Answers as file
use Rattle.s57_subfields.specs.declared.fault.FieldFault.{FieldFault}
use Rattle.s57_subfields.specs.Answers as field
use Rattle.exchange_catalogue.specs.Answers.{GivesCatalogue, fault_of_file, fault_of_field}
use Rattle.exchange_catalogue.specs.Catalogue.{catalogue_of}
use Rattle.exchange_catalogue.specs.declared.entry.Entry.{Entry}

pub file_fails : (fault : FileFault) (read : Result FileValue FileFault) → file.Fails fault read
    → GivesCatalogue {X = List Entry} (Err (fault_of_file fault)) (or_fault_as fault_of_file read >>= catalogue_of)
file_fails fault read h =
    λ differs. ap (λ (r : Result FileValue FileFault). or_fault_as fault_of_file r >>= catalogue_of)
    (h (λ e. differs (ap fault_of_file e)))

pub entries_fail : (fault : FieldFault) (read : Result (List Entry) FieldFault) → field.Fails fault read
    → GivesCatalogue {X = List Entry} (Err (fault_of_field fault)) (or_fault_as fault_of_field read)
entries_fail fault read h = λ differs. ap (or_fault_as fault_of_field) (h (λ e. differs (ap fault_of_field e)))

pub err_is : {A E : Type 0} {x y : E} → ◌≡◌ {A = Result A E} (Err x) (Err y) → x ≡ y
err_is e = cc

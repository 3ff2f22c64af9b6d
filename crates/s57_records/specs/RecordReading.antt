-- What the subfields of a data record of the code read as.
use Rattle.iso8211_records.specs.Kinds.{layout_at}
use Rattle.s57_records.specs.declared.reader.DataRecord.{DataRecord}
use Rattle.s57_records.specs.Subfields.{Subfields}
use Rattle.s57_records.specs.LayoutReadings.{subfields_of}

abbrev pub subfields_in : DataRecord → Subfields
subfields_in r = subfields_of (layout_at r.rows.now) r.number r.fields.now

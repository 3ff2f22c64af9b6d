-- The fields of a file's data records, by the number of the record.
use Rattle.std.specs.Prelude.{Option, ℕ, List, zero, suc, [], slice_get, unwrap_or}
use Rattle.iso8211_formats.specs.Layout.{Layout}
use Rattle.iso8211_records.specs.FileValue.{FileValue}
use Rattle.iso8211_records.specs.Kinds.{layout_at}
use Rattle.iso8211_records.specs.declared.record.RawField.{RawField}
use Rattle.s57_subfields.specs.RowValues.{RowValues, fields_in}

-- the data record of a number, counted from 1; without fields where there is none
abbrev pub record_at : FileValue → ℕ → List RawField
record_at file zero = []
record_at file (suc at) = unwrap_or (slice_get file.records at) []

-- the layout of a file's fields of a tag
abbrev pub layout_in : List ℕ → FileValue → Option Layout
layout_in tag file = layout_at file.descriptors tag

-- the record's fields of a tag
abbrev pub values_at : List ℕ → FileValue → ℕ → RowValues
values_at tag file number = fields_in number tag (record_at file number)

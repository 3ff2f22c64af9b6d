-- The entries of a catalogue (S-57 Part 3, catalogue directory field).
use Rattle.std.specs.Prelude.{ℕ, Bool, ◌&&◌, if◌then◌else◌, List, [], ◌∷◌, codes, filter, map, is_some}
use Rattle.std.specs.Prelude.{Option, Some, None, option_map, Result, Ok, Err}
use Rattle.std.specs.List.{enumerate_from}
use Rattle.std.specs.Str.{bytes_eq}
use Rattle.chart_model.specs.Answers.{◌>>=◌}
use Rattle.iso8211_formats.specs.Layout.{Layout}
use Rattle.iso8211_records.specs.FileValue.{FileValue}
use Rattle.iso8211_records.specs.Kinds.{layout_at}
use Rattle.iso8211_records.specs.declared.record.RawField.{RawField}
use Rattle.iso8211_records.specs.declared.value.Value.{Value}
use Rattle.iso8211_records.specs.declared.value.Value.TheVariants.{Number, Text, Bits}
use Rattle.s57_subfields.specs.Answers.{missing_field}
use Rattle.s57_subfields.specs.Columns.{once_at, once_in}
use Rattle.s57_subfields.specs.RowValues.{RowValues, fields_in, first_of}
use Rattle.s57_subfields.specs.Singles.{single_of}
use Rattle.s57_subfields.specs.declared.fault.FieldFault.{FieldFault}
use Rattle.exchange_catalogue.specs.declared.entry.Entry.{Entry}
use Rattle.exchange_catalogue.specs.declared.row.CatdRow.{CatdRow}

-- the tag of the field
abbrev pub CATD : List ℕ
CATD = codes "CATD"

-- ---- what its subfields hold

-- a text
abbrev pub text_of : Value → Option (List ℕ)
text_of (Text text) = Some text
text_of (Number number) = None
text_of (Bits bits) = None

-- a text that says whether a file is binary
abbrev pub binary_of : Value → Option Bool
binary_of value = option_map (λ text. bytes_eq text (codes "BIN")) (text_of value)

-- the row as it stands in a file's descriptor
abbrev pub catd_row : Option Layout → CatdRow
catd_row layout = record {
  file = single_of layout (codes "FILE") (record {});
  implementation = single_of layout (codes "IMPL") (record {});
}

-- ---- an entry

-- what the first CATD of a record says
abbrev pub values_in : CatdRow → RowValues → Result Entry FieldFault
values_in row values = do
  file ← once_in text_of values row.file.subfield
  binary ← once_in binary_of values row.implementation.subfield
  Ok (record { number = values.number; file = file; binary = binary })

-- the same where the descriptor has both subfields outside of a repeated group; else the field is missing
unfoldable pub entry_in : CatdRow → RowValues → Result Entry FieldFault
entry_in row values =
    if is_some (once_at row.file.subfield.place) && is_some (once_at row.implementation.subfield.place)
    then values_in row values else Err (missing_field values)

-- ---- the entries of a file

-- the CATD fields of each data record that has any, by the records' numbers
abbrev pub rows_of : List (ℕ × List RawField) → List RowValues
rows_of records =
    filter (λ values. is_some (first_of values.fields)) (map (λ one. fields_in one.0 CATD one.1) records)

-- the values, or the first fault
unfoldable pub all_of : {A E : Type 0} → List (Result A E) → Result (List A) E
all_of [] = Ok []
all_of (answer ∷ answers) = do
  value ← answer
  values ← all_of answers
  Ok (value ∷ values)

-- an entry for each data record with a CATD, in their order; or the first fault by record
abbrev pub entries_of : FileValue → Result (List Entry) FieldFault
entries_of file =
    all_of (map (entry_in (catd_row (layout_at file.descriptors CATD))) (rows_of (enumerate_from 1 file.records)))

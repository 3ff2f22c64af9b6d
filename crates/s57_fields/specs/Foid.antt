-- Feature object identifier (FOID, S-57 Part 3, clause 7.6.2).
use Rattle.std.specs.Prelude.{Option, Result, Ok, ℕ}
use Rattle.chart_model.specs.Answers.{◌>>=◌}
use Rattle.chart_model.specs.declared.name.Foid.{Foid}
use Rattle.iso8211_formats.specs.Layout.{Layout}
use Rattle.iso8211_records.specs.FileValue.{FileValue}
use Rattle.s57_subfields.specs.Columns.{once_in}
use Rattle.s57_subfields.specs.Number.{number_up_to, TWO_BYTES, FOUR_BYTES}
use Rattle.s57_subfields.specs.RowValues.{RowValues}
use Rattle.s57_subfields.specs.Singles.{single_of}
use Rattle.s57_subfields.specs.declared.fault.FieldFault.{FieldFault}
use Rattle.s57_fields.specs.Files.{layout_in, values_at}
use Rattle.s57_fields.specs.declared.foid.FoidRow.{FoidRow}
use Rattle.s57_subfields.specs.Labels as labels
use Rattle.s57_subfields.specs.Tags as tags

abbrev pub foid_row : Option Layout → FoidRow
foid_row layout = record {
  agen = single_of layout labels.AGEN (record {});
  fidn = single_of layout labels.FIDN (record {});
  fids = single_of layout labels.FIDS (record {});
}

unfoldable pub foid_of : FoidRow → RowValues → Result Foid FieldFault
foid_of row values = do
  agen ← once_in (number_up_to TWO_BYTES) values row.agen.subfield
  fidn ← once_in (number_up_to FOUR_BYTES) values row.fidn.subfield
  fids ← once_in (number_up_to TWO_BYTES) values row.fids.subfield
  Ok (record { agen = agen; fidn = fidn; fids = fids })

abbrev pub foid_at : FileValue → ℕ → Result Foid FieldFault
foid_at file number = foid_of (foid_row (layout_in tags.FOID file)) (values_at tags.FOID file number)

-- Data set structure information (DSSI, S-57 Part 3, clause 7.3.1.2).
use Rattle.std.specs.Prelude.{Option, Result, Ok, ℕ}
use Rattle.chart_model.specs.Answers.{◌>>=◌}
use Rattle.iso8211_formats.specs.Layout.{Layout}
use Rattle.iso8211_records.specs.FileValue.{FileValue}
use Rattle.s57_subfields.specs.Columns.{once_in}
use Rattle.s57_subfields.specs.Number.{number_up_to, ONE_BYTE}
use Rattle.s57_subfields.specs.RowValues.{RowValues}
use Rattle.s57_subfields.specs.Singles.{single_of}
use Rattle.s57_subfields.specs.declared.fault.FieldFault.{FieldFault}
use Rattle.s57_fields.specs.Files.{layout_in, values_at}
use Rattle.s57_fields.specs.declared.dssi.Dssi.{Dssi}
use Rattle.s57_fields.specs.declared.dssi.DssiRow.{DssiRow}
use Rattle.s57_subfields.specs.Labels as labels
use Rattle.s57_subfields.specs.Tags as tags

abbrev pub dssi_row : Option Layout → DssiRow
dssi_row layout = record { aall = single_of layout labels.AALL (record {}) }

unfoldable pub dssi_in : DssiRow → RowValues → Result Dssi FieldFault
dssi_in row values = do
  aall ← once_in (number_up_to ONE_BYTE) values row.aall.subfield
  Ok (record { aall = aall })

abbrev pub dssi_at : FileValue → ℕ → Result Dssi FieldFault
dssi_at file number = dssi_in (dssi_row (layout_in tags.DSSI file)) (values_at tags.DSSI file number)

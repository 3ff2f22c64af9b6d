-- Data set parameters (DSPM, S-57 Part 3, clause 7.3.2.1).
use Rattle.std.specs.Prelude.{Option, Result, Ok, ℕ}
use Rattle.chart_model.specs.Answers.{◌>>=◌}
use Rattle.iso8211_formats.specs.Layout.{Layout}
use Rattle.iso8211_records.specs.FileValue.{FileValue}
use Rattle.s57_subfields.specs.Columns.{once_in}
use Rattle.s57_subfields.specs.Number.{number_up_to, ONE_BYTE, FOUR_BYTES}
use Rattle.s57_subfields.specs.RowValues.{RowValues}
use Rattle.s57_subfields.specs.Singles.{single_of}
use Rattle.s57_subfields.specs.declared.fault.FieldFault.{FieldFault}
use Rattle.s57_fields.specs.Files.{layout_in, values_at}
use Rattle.s57_fields.specs.declared.dspm.Dspm.{Dspm}
use Rattle.s57_fields.specs.declared.dspm.DspmRow.{DspmRow}
use Rattle.s57_subfields.specs.Labels as labels
use Rattle.s57_subfields.specs.Tags as tags

abbrev pub dspm_row : Option Layout → DspmRow
dspm_row layout = record {
  cscl = single_of layout labels.CSCL (record {});
  duni = single_of layout labels.DUNI (record {});
  coun = single_of layout labels.COUN (record {});
  comf = single_of layout labels.COMF (record {});
  somf = single_of layout labels.SOMF (record {});
}

unfoldable pub dspm_in : DspmRow → RowValues → Result Dspm FieldFault
dspm_in row values = do
  cscl ← once_in (number_up_to FOUR_BYTES) values row.cscl.subfield
  duni ← once_in (number_up_to ONE_BYTE) values row.duni.subfield
  coun ← once_in (number_up_to ONE_BYTE) values row.coun.subfield
  comf ← once_in (number_up_to FOUR_BYTES) values row.comf.subfield
  somf ← once_in (number_up_to FOUR_BYTES) values row.somf.subfield
  Ok (record { cscl = cscl; duni = duni; coun = coun; comf = comf; somf = somf })

abbrev pub dspm_at : FileValue → ℕ → Result Dspm FieldFault
dspm_at file number = dspm_in (dspm_row (layout_in tags.DSPM file)) (values_at tags.DSPM file number)

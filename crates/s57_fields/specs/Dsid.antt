-- Data set identification (DSID, S-57 Part 3, clause 7.3.1.1).
use Rattle.std.specs.Prelude.{Option, Result, Ok, ℕ}
use Rattle.chart_model.specs.Answers.{◌>>=◌}
use Rattle.iso8211_formats.specs.Layout.{Layout}
use Rattle.iso8211_records.specs.FileValue.{FileValue}
use Rattle.s57_subfields.specs.Columns.{once_in}
use Rattle.s57_subfields.specs.Number.{number_up_to, ONE_BYTE, TWO_BYTES}
use Rattle.s57_subfields.specs.RowValues.{RowValues}
use Rattle.s57_subfields.specs.Singles.{single_of}
use Rattle.s57_subfields.specs.Texts.{nine_digits, eight_bytes, data_set_name}
use Rattle.s57_subfields.specs.declared.fault.FieldFault.{FieldFault}
use Rattle.s57_fields.specs.Files.{layout_in, values_at}
use Rattle.s57_fields.specs.declared.dsid.Dsid.{Dsid}
use Rattle.s57_fields.specs.declared.dsid.DsidRow.{DsidRow}
use Rattle.s57_subfields.specs.Labels as labels
use Rattle.s57_subfields.specs.Tags as tags

abbrev pub dsid_row : Option Layout → DsidRow
dsid_row layout = record {
  dsnm = single_of layout labels.DSNM (record {});
  edtn = single_of layout labels.EDTN (record {});
  updn = single_of layout labels.UPDN (record {});
  isdt = single_of layout labels.ISDT (record {});
  prof = single_of layout labels.PROF (record {});
  agen = single_of layout labels.AGEN (record {});
}

unfoldable pub dsid_in : DsidRow → RowValues → Result Dsid FieldFault
dsid_in row values = do
  dsnm ← once_in data_set_name values row.dsnm.subfield
  edtn ← once_in nine_digits values row.edtn.subfield
  updn ← once_in nine_digits values row.updn.subfield
  isdt ← once_in eight_bytes values row.isdt.subfield
  prof ← once_in (number_up_to ONE_BYTE) values row.prof.subfield
  agen ← once_in (number_up_to TWO_BYTES) values row.agen.subfield
  Ok (record { dsnm = dsnm; edtn = edtn; updn = updn; isdt = isdt; prof = prof; agen = agen })

abbrev pub dsid_at : FileValue → ℕ → Result Dsid FieldFault
dsid_at file number = dsid_in (dsid_row (layout_in tags.DSID file)) (values_at tags.DSID file number)

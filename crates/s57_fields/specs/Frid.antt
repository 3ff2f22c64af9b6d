-- Feature record identifier (FRID, S-57 Part 3, clause 7.6.1).
use Rattle.std.specs.Prelude.{Option, Result, Ok, ℕ, Bool}
use Rattle.chart_model.specs.Answers.{◌>>=◌}
use Rattle.iso8211_formats.specs.Layout.{Layout}
use Rattle.iso8211_records.specs.FileValue.{FileValue}
use Rattle.s57_subfields.specs.Columns.{once_in}
use Rattle.s57_subfields.specs.Number.{number_up_to, ONE_BYTE, TWO_BYTES, FOUR_BYTES}
use Rattle.s57_subfields.specs.RowValues.{RowValues}
use Rattle.s57_subfields.specs.Singles.{single_of}
use Rattle.s57_subfields.specs.declared.fault.FieldFault.{FieldFault}
use Rattle.s57_fields.specs.Files.{layout_in, values_at}
use Rattle.s57_fields.specs.Ruin.{ruin_in}
use Rattle.s57_fields.specs.declared.frid.Frid.{Frid}
use Rattle.s57_fields.specs.declared.frid.FridRow.{FridRow}
use Rattle.s57_subfields.specs.Labels as labels
use Rattle.s57_subfields.specs.Tags as tags

abbrev pub frid_row : Option Layout → FridRow
frid_row layout = record {
  rcnm = single_of layout labels.RCNM (record {});
  rcid = single_of layout labels.RCID (record {});
  prim = single_of layout labels.PRIM (record {});
  grup = single_of layout labels.GRUP (record {});
  objl = single_of layout labels.OBJL (record {});
  rver = single_of layout labels.RVER (record {});
  ruin = single_of layout labels.RUIN (record {});
}

unfoldable pub frid_in : Bool → FridRow → RowValues → Result Frid FieldFault
frid_in update row values = do
  rcnm ← once_in (number_up_to ONE_BYTE) values row.rcnm.subfield
  rcid ← once_in (number_up_to FOUR_BYTES) values row.rcid.subfield
  prim ← once_in (number_up_to ONE_BYTE) values row.prim.subfield
  grup ← once_in (number_up_to ONE_BYTE) values row.grup.subfield
  objl ← once_in (number_up_to TWO_BYTES) values row.objl.subfield
  rver ← once_in (number_up_to TWO_BYTES) values row.rver.subfield
  ruin ← ruin_in update (once_in (number_up_to ONE_BYTE) values row.ruin.subfield)
  Ok (record { rcnm = rcnm; rcid = rcid; prim = prim; grup = grup; objl = objl; rver = rver; ruin = ruin })

abbrev pub frid_at : Bool → FileValue → ℕ → Result Frid FieldFault
frid_at update file number = frid_in update (frid_row (layout_in tags.FRID file)) (values_at tags.FRID file number)

-- Vector record identifier (VRID, S-57 Part 3, clause 7.7.1.1).
use Rattle.std.specs.Prelude.{Option, Result, Ok, ℕ, Bool}
use Rattle.chart_model.specs.Answers.{◌>>=◌}
use Rattle.iso8211_formats.specs.Layout.{Layout}
use Rattle.iso8211_records.specs.FileValue.{FileValue}
use Rattle.s57_subfields.specs.Columns.{once_in}
use Rattle.s57_subfields.specs.Number.{number_up_to, ONE_BYTE, TWO_BYTES, FOUR_BYTES}
use Rattle.s57_subfields.specs.RowValues.{RowValues}
use Rattle.s57_subfields.specs.Singles.{single_of}
use Rattle.s57_subfields.specs.declared.fault.FieldFault.{FieldFault}
use Rattle.s57_fields.specs.Files.{layout_in, values_at}
use Rattle.s57_fields.specs.Ruin.{ruin_in}
use Rattle.s57_fields.specs.declared.vrid.Vrid.{Vrid}
use Rattle.s57_fields.specs.declared.vrid.VridRow.{VridRow}
use Rattle.s57_subfields.specs.Labels as labels
use Rattle.s57_subfields.specs.Tags as tags

abbrev pub vrid_row : Option Layout → VridRow
vrid_row layout = record {
  rcnm = single_of layout labels.RCNM (record {});
  rcid = single_of layout labels.RCID (record {});
  rver = single_of layout labels.RVER (record {});
  ruin = single_of layout labels.RUIN (record {});
}

unfoldable pub vrid_in : Bool → VridRow → RowValues → Result Vrid FieldFault
vrid_in update row values = do
  rcnm ← once_in (number_up_to ONE_BYTE) values row.rcnm.subfield
  rcid ← once_in (number_up_to FOUR_BYTES) values row.rcid.subfield
  rver ← once_in (number_up_to TWO_BYTES) values row.rver.subfield
  ruin ← ruin_in update (once_in (number_up_to ONE_BYTE) values row.ruin.subfield)
  Ok (record { rcnm = rcnm; rcid = rcid; rver = rver; ruin = ruin })

abbrev pub vrid_at : Bool → FileValue → ℕ → Result Vrid FieldFault
vrid_at update file number = vrid_in update (vrid_row (layout_in tags.VRID file)) (values_at tags.VRID file number)

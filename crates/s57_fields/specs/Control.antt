-- The control fields that edit lists: VRPC, SGCC, FFPC and FSPC (S-57 Part 3, clauses 7.7.1.3, 7.7.1.5, 7.6.5 and
-- 7.6.7).
use Rattle.std.specs.Prelude.{Option, Result, Ok, ℕ}
use Rattle.chart_model.specs.Answers.{◌>>=◌}
use Rattle.chart_model.specs.declared.update_record.Control.{Control}
use Rattle.iso8211_formats.specs.Layout.{Layout}
use Rattle.iso8211_records.specs.FileValue.{FileValue}
use Rattle.s57_subfields.specs.Columns.{once_in}
use Rattle.s57_subfields.specs.Number.{number_up_to, ONE_BYTE, TWO_BYTES}
use Rattle.s57_subfields.specs.RowValues.{RowValues}
use Rattle.s57_subfields.specs.Singles.{single_of}
use Rattle.s57_subfields.specs.declared.fault.FieldFault.{FieldFault}
use Rattle.s57_fields.specs.Files.{layout_in, values_at}
use Rattle.s57_fields.specs.declared.control.ControlRow.{ControlRow}
use Rattle.s57_subfields.specs.Labels as labels
use Rattle.s57_subfields.specs.Tags as tags

abbrev pub vrpc_row : Option Layout → ControlRow
vrpc_row layout = record {
  instruction = single_of layout labels.VPUI (record {});
  index = single_of layout labels.VPIX (record {});
  count = single_of layout labels.NVPT (record {});
}

abbrev pub sgcc_row : Option Layout → ControlRow
sgcc_row layout = record {
  instruction = single_of layout labels.CCUI (record {});
  index = single_of layout labels.CCIX (record {});
  count = single_of layout labels.CCNC (record {});
}

abbrev pub ffpc_row : Option Layout → ControlRow
ffpc_row layout = record {
  instruction = single_of layout labels.FFUI (record {});
  index = single_of layout labels.FFIX (record {});
  count = single_of layout labels.NFPT (record {});
}

abbrev pub fspc_row : Option Layout → ControlRow
fspc_row layout = record {
  instruction = single_of layout labels.FSUI (record {});
  index = single_of layout labels.FSIX (record {});
  count = single_of layout labels.NSPT (record {});
}

unfoldable pub control_in : ControlRow → RowValues → Result Control FieldFault
control_in row values = do
  instruction ← once_in (number_up_to ONE_BYTE) values row.instruction.subfield
  index ← once_in (number_up_to TWO_BYTES) values row.index.subfield
  count ← once_in (number_up_to TWO_BYTES) values row.count.subfield
  Ok (record { instruction = instruction; index = index; count = count })

abbrev pub vrpc_at : FileValue → ℕ → Result Control FieldFault
vrpc_at file number = control_in (vrpc_row (layout_in tags.VRPC file)) (values_at tags.VRPC file number)

abbrev pub sgcc_at : FileValue → ℕ → Result Control FieldFault
sgcc_at file number = control_in (sgcc_row (layout_in tags.SGCC file)) (values_at tags.SGCC file number)

abbrev pub ffpc_at : FileValue → ℕ → Result Control FieldFault
ffpc_at file number = control_in (ffpc_row (layout_in tags.FFPC file)) (values_at tags.FFPC file number)

abbrev pub fspc_at : FileValue → ℕ → Result Control FieldFault
fspc_at file number = control_in (fspc_row (layout_in tags.FSPC file)) (values_at tags.FSPC file number)

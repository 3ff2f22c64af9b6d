-- Feature record to feature object pointers (FFPT, S-57 Part 3, clause 7.6.6).
use Rattle.std.specs.Prelude.{ℕ, List, [], ◌∷◌, Option, Some, Result}
use Rattle.chart_model.specs.declared.record.Related.{Related}
use Rattle.iso8211_formats.specs.Layout.{Layout}
use Rattle.iso8211_records.specs.FileValue.{FileValue}
use Rattle.iso8211_records.specs.declared.value.Value.{Value}
use Rattle.s57_subfields.specs.declared.fault.FieldFault.{FieldFault}
use Rattle.s57_subfields.specs.Lists.{◌>>=◌, Column, column_of, groups_of, list_in, value_in}
use Rattle.s57_subfields.specs.Places.{subfield_of}
use Rattle.s57_subfields.specs.RowValues.{RowValues}
use Rattle.s57_subfields.specs.Names.{object_name}
use Rattle.s57_subfields.specs.Number.{number_up_to, ONE_BYTE}
use Rattle.s57_fields.specs.declared.ffpt.RelatedRow.{RelatedRow}
use Rattle.s57_fields.specs.Files.{layout_in, values_at}
use Rattle.s57_subfields.specs.Labels as labels
use Rattle.s57_subfields.specs.Tags as tags

abbrev pub ffpt_row : Option Layout → RelatedRow
ffpt_row layout = record {
  groups = groups_of layout;
  lnam = subfield_of layout labels.LNAM;
  rind = subfield_of layout labels.RIND;
}

-- what a group is read as
abbrev pub related_object_in : RelatedRow → List Value → Option Related
related_object_in row group = do
  foid ← value_in object_name row.lnam group
  rind ← value_in (number_up_to ONE_BYTE) row.rind group
  Some (record { foid = foid; rind = rind })

-- the subfields, in the order of the standard's row
abbrev pub related_object_columns : RelatedRow → List Column
related_object_columns row =
    column_of object_name row.lnam
    ∷ column_of (number_up_to ONE_BYTE) row.rind
    ∷ []

abbrev pub related_in : RelatedRow → RowValues → Result (List Related) FieldFault
related_in row values = list_in (related_object_in row) (related_object_columns row) row.groups values

abbrev pub ffpt_at : FileValue → ℕ → Result (List Related) FieldFault
ffpt_at file number = related_in (ffpt_row (layout_in tags.FFPT file)) (values_at tags.FFPT file number)

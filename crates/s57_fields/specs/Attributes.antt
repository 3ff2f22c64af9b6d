-- Attributes of vector records and of features (ATTV and ATTF, S-57 Part 3, clauses 7.7.1.2 and 7.6.3).
use Rattle.std.specs.Prelude.{ℕ, List, [], ◌∷◌, Option, Some, Result}
use Rattle.chart_model.specs.declared.record.Attr.{Attr}
use Rattle.iso8211_formats.specs.Layout.{Layout}
use Rattle.iso8211_records.specs.FileValue.{FileValue}
use Rattle.iso8211_records.specs.declared.value.Value.{Value}
use Rattle.s57_subfields.specs.declared.fault.FieldFault.{FieldFault}
use Rattle.s57_subfields.specs.Lists.{◌>>=◌, Column, column_of, groups_of, list_in, value_in}
use Rattle.s57_subfields.specs.Places.{subfield_of}
use Rattle.s57_subfields.specs.RowValues.{RowValues}
use Rattle.s57_subfields.specs.Number.{number_up_to, TWO_BYTES}
use Rattle.s57_subfields.specs.Texts.{plain_text}
use Rattle.s57_fields.specs.declared.attributes.AttributeRow.{AttributeRow}
use Rattle.s57_fields.specs.Files.{layout_in, values_at}
use Rattle.s57_subfields.specs.Labels as labels
use Rattle.s57_subfields.specs.Tags as tags

abbrev pub attribute_row : Option Layout → AttributeRow
attribute_row layout = record {
  groups = groups_of layout;
  attl = subfield_of layout labels.ATTL;
  atvl = subfield_of layout labels.ATVL;
}

-- what a group is read as
abbrev pub attribute_in : AttributeRow → List Value → Option Attr
attribute_in row group = do
  code ← value_in (number_up_to TWO_BYTES) row.attl group
  value ← value_in plain_text row.atvl group
  Some (record { code = code; value = value })

-- the subfields, in the order of the standard's row
abbrev pub attribute_columns : AttributeRow → List Column
attribute_columns row =
    column_of (number_up_to TWO_BYTES) row.attl
    ∷ column_of plain_text row.atvl
    ∷ []

abbrev pub attributes_in : AttributeRow → RowValues → Result (List Attr) FieldFault
attributes_in row values = list_in (attribute_in row) (attribute_columns row) row.groups values

abbrev pub attv_at : FileValue → ℕ → Result (List Attr) FieldFault
attv_at file number = attributes_in (attribute_row (layout_in tags.ATTV file)) (values_at tags.ATTV file number)

abbrev pub attf_at : FileValue → ℕ → Result (List Attr) FieldFault
attf_at file number = attributes_in (attribute_row (layout_in tags.ATTF file)) (values_at tags.ATTF file number)

-- Pointers of vector records (VRPT), and of features to vector records (FSPT; S-57 Part 3, clauses 7.7.1.4 and 7.6.8).
use Rattle.std.specs.Prelude.{◌≡◌, ℕ, List, [], ◌∷◌, ◌++◌, Option, Some, None, Result}
use Rattle.chart_model.specs.Codes.{NULL}
use Rattle.chart_model.specs.declared.record.Pointer.{Pointer}
use Rattle.iso8211_formats.specs.Layout.{Layout}
use Rattle.iso8211_records.specs.FileValue.{FileValue}
use Rattle.iso8211_records.specs.declared.value.Value.{Value}
use Rattle.s57_subfields.specs.declared.fault.FieldFault.{FieldFault}
use Rattle.s57_subfields.specs.declared.subfield.Subfield.{Subfield}
use Rattle.s57_subfields.specs.Lists.{◌>>=◌, Column, column_of, groups_of, list_in, value_in}
use Rattle.s57_subfields.specs.Places.{subfield_of}
use Rattle.s57_subfields.specs.RowValues.{RowValues}
use Rattle.s57_subfields.specs.Names.{record_name}
use Rattle.s57_subfields.specs.Number.{number_up_to, ONE_BYTE}
use Rattle.s57_fields.specs.declared.pointers.PointerRow.{PointerRow}
use Rattle.s57_fields.specs.Files.{layout_in, values_at}
use Rattle.s57_subfields.specs.Labels as labels
use Rattle.s57_subfields.specs.Tags as tags

abbrev pub vrpt_row : Option Layout → PointerRow
vrpt_row layout = record {
  groups = groups_of layout;
  name = subfield_of layout labels.NAME;
  ornt = subfield_of layout labels.ORNT;
  usag = subfield_of layout labels.USAG;
  topi = Some (subfield_of layout labels.TOPI);
  mask = subfield_of layout labels.MASK;
}

-- that of VRPT without the topology
abbrev pub fspt_row : Option Layout → PointerRow
fspt_row layout = record {
  groups = groups_of layout;
  name = subfield_of layout labels.NAME;
  ornt = subfield_of layout labels.ORNT;
  usag = subfield_of layout labels.USAG;
  topi = None;
  mask = subfield_of layout labels.MASK;
}

-- the group's topology, which is null where the row has none
abbrev pub topi_in : Option Subfield → List Value → Option ℕ
topi_in None group = Some NULL
topi_in (Some topi) group = value_in (number_up_to ONE_BYTE) topi group

-- what a group is read as
abbrev pub pointer_in : PointerRow → List Value → Option Pointer
pointer_in row group = do
  target ← value_in record_name row.name group
  ornt ← value_in (number_up_to ONE_BYTE) row.ornt group
  usag ← value_in (number_up_to ONE_BYTE) row.usag group
  topi ← topi_in row.topi group
  mask ← value_in (number_up_to ONE_BYTE) row.mask group
  Some (record { target = target; ornt = ornt; usag = usag; topi = topi; mask = mask })

abbrev pub topi_columns : Option Subfield → List Column
topi_columns None = []
topi_columns (Some topi) = column_of (number_up_to ONE_BYTE) topi ∷ []

-- the subfields, in the order of the standard's row
abbrev pub pointer_columns : PointerRow → List Column
pointer_columns row =
    column_of record_name row.name
    ∷ column_of (number_up_to ONE_BYTE) row.ornt
    ∷ column_of (number_up_to ONE_BYTE) row.usag
    ∷ (topi_columns row.topi ++ (column_of (number_up_to ONE_BYTE) row.mask ∷ []))

-- the topology is null where the row has none
abbrev pub IsTopiUnder : Option Subfield → ℕ → Type 0
IsTopiUnder None topi = topi ≡ 255
IsTopiUnder (Some subfield) topi = Unit {0}

abbrev pub pointers_in : PointerRow → RowValues → Result (List Pointer) FieldFault
pointers_in row values = list_in (pointer_in row) (pointer_columns row) row.groups values

abbrev pub vrpt_at : FileValue → ℕ → Result (List Pointer) FieldFault
vrpt_at file number = pointers_in (vrpt_row (layout_in tags.VRPT file)) (values_at tags.VRPT file number)

abbrev pub fspt_at : FileValue → ℕ → Result (List Pointer) FieldFault
fspt_at file number = pointers_in (fspt_row (layout_in tags.FSPT file)) (values_at tags.FSPT file number)

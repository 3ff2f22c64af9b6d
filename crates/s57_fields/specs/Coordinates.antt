-- Coordinates in two dimensions (SG2D), and in three, which are soundings (SG3D; S-57 Part 3, clauses 7.7.1.6 and
-- 7.7.1.7).
use Rattle.std.specs.Prelude.{ℕ, ℤ, List, [], ◌∷◌, Option, Some, None, IsNone, IsSome, Result}
use Rattle.chart_model.specs.declared.record.Coord.{Coord}
use Rattle.iso8211_formats.specs.Layout.{Layout}
use Rattle.iso8211_records.specs.FileValue.{FileValue}
use Rattle.iso8211_records.specs.declared.value.Value.{Value}
use Rattle.s57_subfields.specs.declared.fault.FieldFault.{FieldFault}
use Rattle.s57_subfields.specs.declared.subfield.Subfield.{Subfield}
use Rattle.s57_subfields.specs.Lists.{◌>>=◌, Column, column_of, groups_of, list_in, value_in}
use Rattle.s57_subfields.specs.Places.{subfield_of}
use Rattle.s57_subfields.specs.RowValues.{RowValues}
use Rattle.s57_subfields.specs.Signed.{number_within, depth_in, LATITUDE, LONGITUDE}
use Rattle.s57_fields.specs.declared.coordinates.CoordinateRow.{CoordinateRow}
use Rattle.s57_fields.specs.Files.{layout_in, values_at}
use Rattle.s57_subfields.specs.Labels as labels
use Rattle.s57_subfields.specs.Tags as tags

abbrev pub sg2d_row : Option Layout → CoordinateRow
sg2d_row layout = record {
  groups = groups_of layout;
  ycoo = subfield_of layout labels.YCOO;
  xcoo = subfield_of layout labels.XCOO;
  ve3d = None;
}

-- that of SG2D, and a depth
abbrev pub sg3d_row : Option Layout → CoordinateRow
sg3d_row layout = record {
  groups = groups_of layout;
  ycoo = subfield_of layout labels.YCOO;
  xcoo = subfield_of layout labels.XCOO;
  ve3d = Some (subfield_of layout labels.VE3D);
}

-- the position with the group's depth, where the row has depths
abbrev pub coord_at : Option Subfield → List Value → ℤ → ℤ → Option Coord
coord_at None group y x = Some (record { x = x; y = y; z = None })
coord_at (Some ve3d) group y x = do
  z ← value_in depth_in ve3d group
  Some (record { x = x; y = y; z = Some z })

-- what a group is read as
abbrev pub coordinate_in : CoordinateRow → List Value → Option Coord
coordinate_in row group = do
  y ← value_in (number_within LATITUDE) row.ycoo group
  x ← value_in (number_within LONGITUDE) row.xcoo group
  coord_at row.ve3d group y x

abbrev pub depth_columns : Option Subfield → List Column
depth_columns None = []
depth_columns (Some ve3d) = column_of depth_in ve3d ∷ []

-- the subfields, in the order of the standard's row
abbrev pub coordinate_columns : CoordinateRow → List Column
coordinate_columns row =
    column_of (number_within LATITUDE) row.ycoo
    ∷ column_of (number_within LONGITUDE) row.xcoo
    ∷ depth_columns row.ve3d

-- there is a depth where the row has depths, and nowhere else
abbrev pub IsDepthUnder : Option Subfield → Option ℤ → Type 0
IsDepthUnder None z = IsNone z
IsDepthUnder (Some ve3d) z = IsSome z

abbrev pub coordinates_in : CoordinateRow → RowValues → Result (List Coord) FieldFault
coordinates_in row values = list_in (coordinate_in row) (coordinate_columns row) row.groups values

abbrev pub sg2d_at : FileValue → ℕ → Result (List Coord) FieldFault
sg2d_at file number = coordinates_in (sg2d_row (layout_in tags.SG2D file)) (values_at tags.SG2D file number)

abbrev pub sg3d_at : FileValue → ℕ → Result (List Coord) FieldFault
sg3d_at file number = coordinates_in (sg3d_row (layout_in tags.SG3D file)) (values_at tags.SG3D file number)

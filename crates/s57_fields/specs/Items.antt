-- What one group of each list is read as by the layout of its field, and what is wrong under the labels of each list.
use Rattle.std.specs.Prelude.{List, map, Option, Some}
use Rattle.iso8211_formats.specs.Layout.{Layout}
use Rattle.iso8211_records.specs.declared.value.Value.{Value}
use Rattle.chart_model.specs.declared.record.Attr.{Attr}
use Rattle.chart_model.specs.declared.record.Coord.{Coord}
use Rattle.chart_model.specs.declared.record.Pointer.{Pointer}
use Rattle.chart_model.specs.declared.record.Related.{Related}
use Rattle.s57_subfields.specs.declared.fault.FieldFault.{FieldFault}
use Rattle.s57_subfields.specs.Lists.{column_fault}
use Rattle.s57_subfields.specs.RowValues.{RowValues}
use Rattle.s57_fields.specs.Coordinates.{coordinate_in, coordinate_columns, sg2d_row, sg3d_row}
use Rattle.s57_fields.specs.Pointers.{pointer_in, pointer_columns, fspt_row, vrpt_row}
use Rattle.s57_fields.specs.Ffpt.{related_object_in, related_object_columns, ffpt_row}
use Rattle.s57_fields.specs.Attributes.{attribute_in, attribute_columns, attribute_row}

-- ---- ATTV and ATTF

unfoldable pub attribute_of : Layout → List Value → Option Attr
attribute_of layout group = attribute_in (attribute_row (Some layout)) group

abbrev pub attribute_faults : Layout → RowValues → List (List Value) → List (Option FieldFault)
attribute_faults layout row groups = map (column_fault row groups) (attribute_columns (attribute_row (Some layout)))

-- ---- VRPT

unfoldable pub vector_pointer_of : Layout → List Value → Option Pointer
vector_pointer_of layout group = pointer_in (vrpt_row (Some layout)) group

abbrev pub vector_pointer_faults : Layout → RowValues → List (List Value) → List (Option FieldFault)
vector_pointer_faults layout row groups = map (column_fault row groups) (pointer_columns (vrpt_row (Some layout)))

-- ---- FSPT

unfoldable pub feature_pointer_of : Layout → List Value → Option Pointer
feature_pointer_of layout group = pointer_in (fspt_row (Some layout)) group

abbrev pub feature_pointer_faults : Layout → RowValues → List (List Value) → List (Option FieldFault)
feature_pointer_faults layout row groups = map (column_fault row groups) (pointer_columns (fspt_row (Some layout)))

-- ---- SG2D: degrees times 10,000,000

unfoldable pub coordinate_of : Layout → List Value → Option Coord
coordinate_of layout group = coordinate_in (sg2d_row (Some layout)) group

abbrev pub coordinate_faults : Layout → RowValues → List (List Value) → List (Option FieldFault)
coordinate_faults layout row groups = map (column_fault row groups) (coordinate_columns (sg2d_row (Some layout)))

-- ---- SG3D: degrees times 10,000,000, and depths in centimetres

unfoldable pub sounding_of : Layout → List Value → Option Coord
sounding_of layout group = coordinate_in (sg3d_row (Some layout)) group

abbrev pub sounding_faults : Layout → RowValues → List (List Value) → List (Option FieldFault)
sounding_faults layout row groups = map (column_fault row groups) (coordinate_columns (sg3d_row (Some layout)))

-- ---- FFPT

unfoldable pub related_of : Layout → List Value → Option Related
related_of layout group = related_object_in (ffpt_row (Some layout)) group

abbrev pub related_faults : Layout → RowValues → List (List Value) → List (Option FieldFault)
related_faults layout row groups = map (column_fault row groups) (related_object_columns (ffpt_row (Some layout)))

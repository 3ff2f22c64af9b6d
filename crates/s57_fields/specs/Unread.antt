-- A group of a list isn't read where one of its subfields isn't.
use Rattle.std.proofs.Common.{refl}
use Rattle.std.specs.Prelude.{◌≡◌, ℕ, ℤ, Bool, List, ◌++◌, Option, Some, None, is_none, option_and_then}
use Rattle.std.specs.List.{list_any}
use Rattle.chart_model.specs.Codes.{NULL}
use Rattle.chart_model.specs.declared.record.Pointer.{Pointer}
use Rattle.iso8211_records.specs.declared.value.Value.{Value}
use Rattle.s57_subfields.specs.declared.subfield.Subfield.{Subfield}
use Rattle.s57_subfields.specs.Lists.{Column, value_in}
use Rattle.s57_subfields.specs.Names.{record_name, object_name}
use Rattle.s57_subfields.specs.Number.{number_up_to, ONE_BYTE, TWO_BYTES}
use Rattle.s57_subfields.specs.Signed.{number_within, depth_in, LATITUDE, LONGITUDE}
use Rattle.s57_subfields.specs.Texts.{plain_text}
use Rattle.s57_subfields.proofs.Lists.{AreSubfields, none-then}
use Rattle.s57_fields.specs.declared.attributes.AttributeRow.{AttributeRow}
use Rattle.s57_fields.specs.Attributes.{attribute_in, attribute_columns}
use Rattle.s57_fields.specs.declared.coordinates.CoordinateRow.{CoordinateRow}
use Rattle.s57_fields.specs.Coordinates.{coord_at, coordinate_in, coordinate_columns, depth_columns}
use Rattle.s57_fields.specs.declared.ffpt.RelatedRow.{RelatedRow}
use Rattle.s57_fields.specs.Ffpt.{related_object_in, related_object_columns}
use Rattle.s57_fields.specs.declared.pointers.PointerRow.{PointerRow}
use Rattle.s57_fields.specs.Pointers.{pointer_in, pointer_columns, topi_columns, topi_in}

abbrev any_unread : List Value → List Column → Bool
any_unread group columns = list_any (λ (column : Column). column.is_unread group) columns

pub attribute-unread : (row : AttributeRow) → AreSubfields (attribute_in row) (attribute_columns row)
attribute-unread row group =
    none-then (value_in (number_up_to TWO_BYTES) row.attl group) _ _ (λ code.
    none-then (value_in plain_text row.atvl group) _ _ (λ value. refl))

topi-unread :
    (topi : Option Subfield) (group : List Value) (next : ℕ → Option Pointer) (more : List Column) →
    ((n : ℕ) → is_none (next n) ≡ any_unread group more) →
    is_none (option_and_then next (topi_in topi group)) ≡ any_unread group (topi_columns topi ++ more)
topi-unread None group next more each = each NULL
topi-unread (Some topi) group next more each = none-then (value_in (number_up_to ONE_BYTE) topi group) _ _ each

pub pointer-unread : (row : PointerRow) → AreSubfields (pointer_in row) (pointer_columns row)
pointer-unread row group =
    none-then (value_in record_name row.name group) _ _ (λ target.
    none-then (value_in (number_up_to ONE_BYTE) row.ornt group) _ _ (λ ornt.
    none-then (value_in (number_up_to ONE_BYTE) row.usag group) _ _ (λ usag.
    topi-unread row.topi group _ _ (λ topi.
    none-then (value_in (number_up_to ONE_BYTE) row.mask group) _ _ (λ mask. refl)))))

depth-unread :
    (ve3d : Option Subfield) (group : List Value) (y x : ℤ) →
    is_none (coord_at ve3d group y x) ≡ any_unread group (depth_columns ve3d)
depth-unread None group y x = refl
depth-unread (Some ve3d) group y x = none-then (value_in depth_in ve3d group) _ _ (λ z. refl)

pub coordinate-unread : (row : CoordinateRow) → AreSubfields (coordinate_in row) (coordinate_columns row)
coordinate-unread row group =
    none-then (value_in (number_within LATITUDE) row.ycoo group) _ _ (λ y.
    none-then (value_in (number_within LONGITUDE) row.xcoo group) _ _ (λ x. depth-unread row.ve3d group y x))

pub related_object-unread : (row : RelatedRow) → AreSubfields (related_object_in row) (related_object_columns row)
related_object-unread row group =
    none-then (value_in object_name row.lnam group) _ _ (λ foid.
    none-then (value_in (number_up_to ONE_BYTE) row.rind group) _ _ (λ rind. refl))

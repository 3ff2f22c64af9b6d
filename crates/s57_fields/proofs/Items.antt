-- Each list of a record by its groups.
use Rattle.std.proofs.Common.{◌≡◌, ℕ, List, [], ◌∷◌, Option, Some, Ok, refl, ap}
use Rattle.std.specs.Prelude.{is_none}
use Rattle.iso8211_formats.specs.Layout.{Layout}
use Rattle.iso8211_records.specs.declared.value.Value.{Value}
use Rattle.s57_subfields.specs.Groups.{FaultIsFirst, ItemsAreGroups}
use Rattle.s57_subfields.specs.Lists.{Column, column_of, list_in}
use Rattle.s57_subfields.specs.declared.group.Groups.{Groups}
use Rattle.s57_subfields.specs.Places.{subfield_of}
use Rattle.s57_subfields.specs.RowValues.{RowValues}
use Rattle.s57_subfields.specs.Labels as labels
use Rattle.s57_subfields.specs.Names.{record_name, object_name}
use Rattle.s57_subfields.specs.Number.{number_up_to, ONE_BYTE, TWO_BYTES}
use Rattle.s57_subfields.specs.Signed.{number_within, depth_in, LATITUDE, LONGITUDE}
use Rattle.s57_subfields.specs.Texts.{plain_text}
use Rattle.s57_subfields.specs.RowValues.{first_of as first_field}
use Rattle.s57_subfields.proofs.Lists.{list-absent}
use Rattle.s57_subfields.proofs.Fronts.{IsListOf, SeesFront, first-fault, in_group-front, items-are_groups}
use Rattle.s57_subfields.proofs.Fronts.{list-undescribed}
use Rattle.s57_fields.specs.Coordinates.{coordinate_in, sg2d_row, sg3d_row, coordinates_in}
use Rattle.s57_fields.specs.Pointers.{pointer_in, fspt_row, vrpt_row, pointers_in}
use Rattle.s57_fields.specs.Ffpt.{related_object_in, ffpt_row, related_in}
use Rattle.s57_fields.specs.Attributes.{attribute_in, attribute_row, attributes_in}
use Rattle.s57_fields.specs.Unread.{attribute-unread, coordinate-unread, pointer-unread, related_object-unread}
use Rattle.s57_fields.specs.Items.{attribute_of, attribute_faults, coordinate_of, coordinate_faults, related_of}
use Rattle.s57_fields.specs.Items.{related_faults, sounding_of, sounding_faults, vector_pointer_of}
use Rattle.s57_fields.specs.Items.{vector_pointer_faults, feature_pointer_of, feature_pointer_faults}

absent-list :
    {A : Type 0} (reads : List Value → Option A) (columns : List Column) (groups : Groups) (row : RowValues) →
    row.fields ≡ [] → list_in reads columns groups row ≡ Ok []
absent-list reads columns groups row none =
    list-absent reads columns groups row (ap (λ (fields : List (List Value)). is_none (first_field fields)) none)

-- the column of a label
abbrev under : {A : Type 0} → (Value → Option A) → Layout → List ℕ → Column
under read layout label = column_of read (subfield_of (Some layout) label)

-- it doesn't look past the end of a group
sees : {A : Type 0} (read : Value → Option A) (layout : Layout) (label : List ℕ) →
    SeesFront layout (under read layout label).is_unread
sees read layout label group rest size = ap is_none (in_group-front read layout label group rest size)

abbrev byte : Value → Option ℕ
byte = number_up_to ONE_BYTE

-- ---- ATTV and ATTF

attribute-front : (layout : Layout) → SeesFront layout (attribute_in (attribute_row (Some layout)))
attribute-front layout group rest size =
    let attl = in_group-front (number_up_to TWO_BYTES) layout labels.ATTL group rest size in
    let atvl = in_group-front plain_text layout labels.ATVL group rest size in
    rw (attl, atvl) refl

attribute-list :
    (layout : Layout) →
    IsListOf layout (attribute_in (attribute_row (Some layout))) (number_up_to TWO_BYTES) labels.ATTL
    (under plain_text layout labels.ATVL ∷ [])
attribute-list layout = record {
  are = attribute-unread (attribute_row (Some layout));
  front = attribute-front layout;
  fronts = (sees plain_text layout labels.ATVL, tt);
}

pub attributes-items : ItemsAreGroups attribute_of (λ layout. attributes_in (attribute_row layout))
unfolding attribute_of
attributes-items layout row parts items grouped e =
    items-are_groups layout _ (number_up_to TWO_BYTES) labels.ATTL _ (attribute-list layout) row parts items grouped e

pub attributes-faults : FaultIsFirst attribute_faults (λ layout. attributes_in (attribute_row layout))
attributes-faults = record {
  absent = λ layout row none. absent-list _ _ _ row none;
  undescribed = λ row some. list-undescribed _ (number_up_to TWO_BYTES) labels.ATTL _ _ row some;
  first = λ layout row parts grouped some.
      first-fault layout _ (number_up_to TWO_BYTES) labels.ATTL _ (attribute-list layout) row parts grouped some;
}

-- ---- VRPT

vector_pointer-front : (layout : Layout) → SeesFront layout (pointer_in (vrpt_row (Some layout)))
vector_pointer-front layout group rest size =
    let name = in_group-front record_name layout labels.NAME group rest size in
    let ornt = in_group-front byte layout labels.ORNT group rest size in
    let usag = in_group-front byte layout labels.USAG group rest size in
    let topi = in_group-front byte layout labels.TOPI group rest size in
    let mask = in_group-front byte layout labels.MASK group rest size in
    rw (name, ornt, usag, topi, mask) refl

vector_pointer-list :
    (layout : Layout) →
    IsListOf layout (pointer_in (vrpt_row (Some layout))) record_name labels.NAME
    (under byte layout labels.ORNT ∷ under byte layout labels.USAG ∷ under byte layout labels.TOPI
    ∷ under byte layout labels.MASK ∷ [])
vector_pointer-list layout = record {
  are = pointer-unread (vrpt_row (Some layout));
  front = vector_pointer-front layout;
  fronts = (
    sees byte layout labels.ORNT,
    (
      sees byte layout labels.USAG,
      (
        sees byte layout labels.TOPI,
        (sees byte layout labels.MASK, tt),
      ),
    ),
  );
}

pub vector_pointers-items : ItemsAreGroups vector_pointer_of (λ layout. pointers_in (vrpt_row layout))
unfolding vector_pointer_of
vector_pointers-items layout row parts items grouped e =
    items-are_groups layout _ record_name labels.NAME _ (vector_pointer-list layout) row parts items grouped e

pub vector_pointers-faults : FaultIsFirst vector_pointer_faults (λ layout. pointers_in (vrpt_row layout))
vector_pointers-faults = record {
  absent = λ layout row none. absent-list _ _ _ row none;
  undescribed = λ row some. list-undescribed _ record_name labels.NAME _ _ row some;
  first = λ layout row parts grouped some.
      first-fault layout _ record_name labels.NAME _ (vector_pointer-list layout) row parts grouped some;
}

-- ---- FSPT

feature_pointer-front : (layout : Layout) → SeesFront layout (pointer_in (fspt_row (Some layout)))
feature_pointer-front layout group rest size =
    let name = in_group-front record_name layout labels.NAME group rest size in
    let ornt = in_group-front byte layout labels.ORNT group rest size in
    let usag = in_group-front byte layout labels.USAG group rest size in
    let mask = in_group-front byte layout labels.MASK group rest size in
    rw (name, ornt, usag, mask) refl

feature_pointer-list :
    (layout : Layout) →
    IsListOf layout (pointer_in (fspt_row (Some layout))) record_name labels.NAME
    (under byte layout labels.ORNT ∷ under byte layout labels.USAG ∷ under byte layout labels.MASK ∷ [])
feature_pointer-list layout = record {
  are = pointer-unread (fspt_row (Some layout));
  front = feature_pointer-front layout;
  fronts = (sees byte layout labels.ORNT, (sees byte layout labels.USAG, (sees byte layout labels.MASK, tt)));
}

pub feature_pointers-items : ItemsAreGroups feature_pointer_of (λ layout. pointers_in (fspt_row layout))
unfolding feature_pointer_of
feature_pointers-items layout row parts items grouped e =
    items-are_groups layout _ record_name labels.NAME _ (feature_pointer-list layout) row parts items grouped e

pub feature_pointers-faults : FaultIsFirst feature_pointer_faults (λ layout. pointers_in (fspt_row layout))
feature_pointers-faults = record {
  absent = λ layout row none. absent-list _ _ _ row none;
  undescribed = λ row some. list-undescribed _ record_name labels.NAME _ _ row some;
  first = λ layout row parts grouped some.
      first-fault layout _ record_name labels.NAME _ (feature_pointer-list layout) row parts grouped some;
}

-- ---- SG2D

coordinate-front : (layout : Layout) → SeesFront layout (coordinate_in (sg2d_row (Some layout)))
coordinate-front layout group rest size =
    let ycoo = in_group-front (number_within LATITUDE) layout labels.YCOO group rest size in
    let xcoo = in_group-front (number_within LONGITUDE) layout labels.XCOO group rest size in
    rw (ycoo, xcoo) refl

coordinate-list :
    (layout : Layout) →
    IsListOf layout (coordinate_in (sg2d_row (Some layout))) (number_within LATITUDE) labels.YCOO
    (under (number_within LONGITUDE) layout labels.XCOO ∷ [])
coordinate-list layout = record {
  are = coordinate-unread (sg2d_row (Some layout));
  front = coordinate-front layout;
  fronts = (sees (number_within LONGITUDE) layout labels.XCOO, tt);
}

pub coordinates-items : ItemsAreGroups coordinate_of (λ layout. coordinates_in (sg2d_row layout))
unfolding coordinate_of
coordinates-items layout row parts items grouped e =
    items-are_groups layout _ (number_within LATITUDE) labels.YCOO _ (coordinate-list layout) row parts items grouped e

pub coordinates-faults : FaultIsFirst coordinate_faults (λ layout. coordinates_in (sg2d_row layout))
coordinates-faults = record {
  absent = λ layout row none. absent-list _ _ _ row none;
  undescribed = λ row some. list-undescribed _ (number_within LATITUDE) labels.YCOO _ _ row some;
  first = λ layout row parts grouped some.
      first-fault layout _ (number_within LATITUDE) labels.YCOO _ (coordinate-list layout) row parts grouped some;
}

-- ---- SG3D

sounding-front : (layout : Layout) → SeesFront layout (coordinate_in (sg3d_row (Some layout)))
sounding-front layout group rest size =
    let ycoo = in_group-front (number_within LATITUDE) layout labels.YCOO group rest size in
    let xcoo = in_group-front (number_within LONGITUDE) layout labels.XCOO group rest size in
    let ve3d = in_group-front depth_in layout labels.VE3D group rest size in
    rw (ycoo, xcoo, ve3d) refl

sounding-list :
    (layout : Layout) →
    IsListOf layout (coordinate_in (sg3d_row (Some layout))) (number_within LATITUDE) labels.YCOO
    (under (number_within LONGITUDE) layout labels.XCOO ∷ under depth_in layout labels.VE3D ∷ [])
sounding-list layout = record {
  are = coordinate-unread (sg3d_row (Some layout));
  front = sounding-front layout;
  fronts = (sees (number_within LONGITUDE) layout labels.XCOO, (sees depth_in layout labels.VE3D, tt));
}

pub soundings-items : ItemsAreGroups sounding_of (λ layout. coordinates_in (sg3d_row layout))
unfolding sounding_of
soundings-items layout row parts items grouped e =
    items-are_groups layout _ (number_within LATITUDE) labels.YCOO _ (sounding-list layout) row parts items grouped e

pub soundings-faults : FaultIsFirst sounding_faults (λ layout. coordinates_in (sg3d_row layout))
soundings-faults = record {
  absent = λ layout row none. absent-list _ _ _ row none;
  undescribed = λ row some. list-undescribed _ (number_within LATITUDE) labels.YCOO _ _ row some;
  first = λ layout row parts grouped some.
      first-fault layout _ (number_within LATITUDE) labels.YCOO _ (sounding-list layout) row parts grouped some;
}

-- ---- FFPT

related_object-front : (layout : Layout) → SeesFront layout (related_object_in (ffpt_row (Some layout)))
related_object-front layout group rest size =
    let lnam = in_group-front object_name layout labels.LNAM group rest size in
    let rind = in_group-front byte layout labels.RIND group rest size in
    rw (lnam, rind) refl

related_object-list :
    (layout : Layout) →
    IsListOf layout (related_object_in (ffpt_row (Some layout))) object_name labels.LNAM
    (under byte layout labels.RIND ∷ [])
related_object-list layout = record {
  are = related_object-unread (ffpt_row (Some layout));
  front = related_object-front layout;
  fronts = (sees byte layout labels.RIND, tt);
}

pub related-items : ItemsAreGroups related_of (λ layout. related_in (ffpt_row layout))
unfolding related_of
related-items layout row parts items grouped e =
    items-are_groups layout _ object_name labels.LNAM _ (related_object-list layout) row parts items grouped e

pub related-faults : FaultIsFirst related_faults (λ layout. related_in (ffpt_row layout))
related-faults = record {
  absent = λ layout row none. absent-list _ _ _ row none;
  undescribed = λ row some. list-undescribed _ object_name labels.LNAM _ _ row some;
  first = λ layout row parts grouped some.
      first-fault layout _ object_name labels.LNAM _ (related_object-list layout) row parts grouped some;
}

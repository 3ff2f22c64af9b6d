-- The lists of vector and feature records, as they are written: each item's group is read as the item.
use Rattle.std.proofs.Common.{◌≡◌, ◌∙◌, ℕ, ℤ, pos, List, [], ◌∷◌, length, Option, Some, None, IfSome, refl, sym, ap, subst, arith}
use Rattle.std.specs.Prelude.{int_div, if◌then◌else◌, is_none, unwrap_or}
use Rattle.std.specs.Option.{option_map_or}
use Rattle.chart_model.specs.declared.record.Attr.{Attr}
use Rattle.chart_model.specs.declared.record.Coord.{Coord}
use Rattle.chart_model.specs.declared.record.Pointer.{Pointer}
use Rattle.chart_model.specs.declared.record.Related.{Related}
use Rattle.chart_model.specs.Codes.{NULL}
use Rattle.chart_model.specs.Record.{IsCoord, IsDepth}
use Rattle.iso8211_records.specs.declared.value.Value.TheVariants.{Number}
use Rattle.s57_subfields.specs.Groups.{in_group}
use Rattle.s57_fields.specs.Items.{attribute_faults, attribute_of, coordinate_faults, coordinate_of}
use Rattle.s57_fields.specs.Items.{feature_pointer_faults, feature_pointer_of}
use Rattle.s57_fields.specs.Items.{related_faults, related_of, sounding_faults, sounding_of, vector_pointer_faults}
use Rattle.s57_fields.specs.Items.{vector_pointer_of}
use Rattle.s57_subfields.specs.Labels as labels
use Rattle.s57_fields.specs.Attributes.{attribute_row, attributes_in}
use Rattle.s57_fields.specs.Coordinates.{coordinates_in, sg2d_row, sg3d_row}
use Rattle.s57_fields.specs.Ffpt.{ffpt_row, related_in}
use Rattle.s57_fields.specs.Pointers.{fspt_row, pointers_in, vrpt_row}
use Rattle.s57_subfields.specs.Names.{object_name, record_name}
use Rattle.s57_subfields.specs.Number.{ONE_BYTE, TWO_BYTES, number_up_to}
use Rattle.s57_subfields.specs.Signed.{LATITUDE, LONGITUDE, depth_in, number_within}
use Rattle.s57_subfields.specs.Texts.{plain_text}
use Rattle.s57_fields.proofs.Items.{attributes-faults, attributes-items, coordinates-faults, coordinates-items, feature_pointers-faults, feature_pointers-items}
use Rattle.s57_fields.proofs.Items.{related-faults, related-items, soundings-faults, soundings-items, vector_pointers-faults, vector_pointers-items}
use Rattle.cell_bytes.specs.FieldValues.{IsEntryInRange, IsOneByte, IsPointerInRange, IsRelatedInRange, attribute_values, feature_pointer_values, natural}
use Rattle.cell_bytes.specs.FieldValues.{point_values, related_values, sounding_values, vector_pointer_values}
use Rattle.cell_bytes.specs.Layouts as layout
use Rattle.cell_writer.proofs.ReadLists.{IsListOf, no_fault_under}
use Rattle.cell_writer.proofs.ReadValues.{depth-read, name-read, number-read, object-read, text-read, within-read}

byte-read : (n : ℕ) → IsOneByte n → number_up_to ONE_BYTE (natural n) ≡ Some n
byte-read n small = number-read ONE_BYTE n (omega arith)

-- ---- ATTV and ATTF

abbrev pub attribute_setting : ℕ × List ℕ → Attr
attribute_setting entry = record { code = entry.0; value = entry.1 }

code-read : (entry : ℕ × List ℕ) → IsEntryInRange entry → in_group (number_up_to TWO_BYTES) layout.ATTRIBUTES labels.ATTL (attribute_values entry) ≡ Some entry.0
code-read entry range = let code = range.code in number-read TWO_BYTES entry.0 (omega arith)

value-read : (entry : ℕ × List ℕ) → IsEntryInRange entry → in_group plain_text layout.ATTRIBUTES labels.ATVL (attribute_values entry) ≡ Some entry.1
value-read entry range = text-read entry.1 range.text

attribute-read : (entry : ℕ × List ℕ) → IsEntryInRange entry → attribute_of layout.ATTRIBUTES (attribute_values entry) ≡ Some (attribute_setting entry)
unfolding attribute_of
attribute-read entry range = rw (code-read entry range, value-read entry range) refl

pub attribute-list : IsListOf attribute_of attribute_faults (λ layout. attributes_in (attribute_row layout)) layout.ATTRIBUTES attribute_values attribute_setting IsEntryInRange
attribute-list = record {
  items = attributes-items;
  fault = attributes-faults;
  start = refl;
  sized = λ entry range. refl;
  reads = attribute-read;
  faultless = λ row entry more all. (
    no_fault_under (number_up_to TWO_BYTES) labels.ATTL layout.ATTRIBUTES row attribute_values (λ e. e.0) IsEntryInRange code-read entry more all,
    (no_fault_under plain_text labels.ATVL layout.ATTRIBUTES row attribute_values (λ e. e.1) IsEntryInRange value-read entry more all, tt),
  );
}

-- ---- VRPT

module _ (pointer : Pointer) (range : IsPointerInRange pointer) where
  target-read : in_group record_name layout.VRPT labels.NAME (vector_pointer_values pointer) ≡ Some pointer.target
  target-read = name-read pointer.target range.target

  ornt-read : in_group (number_up_to ONE_BYTE) layout.VRPT labels.ORNT (vector_pointer_values pointer) ≡ Some pointer.ornt
  ornt-read = byte-read pointer.ornt range.ornt

  usag-read : in_group (number_up_to ONE_BYTE) layout.VRPT labels.USAG (vector_pointer_values pointer) ≡ Some pointer.usag
  usag-read = byte-read pointer.usag range.usag

  topi-read : in_group (number_up_to ONE_BYTE) layout.VRPT labels.TOPI (vector_pointer_values pointer) ≡ Some pointer.topi
  topi-read = byte-read pointer.topi range.topi

  mask-read : in_group (number_up_to ONE_BYTE) layout.VRPT labels.MASK (vector_pointer_values pointer) ≡ Some pointer.mask
  mask-read = byte-read pointer.mask range.mask

  vector_pointer-read : vector_pointer_of layout.VRPT (vector_pointer_values pointer) ≡ Some pointer
  unfolding vector_pointer_of
  vector_pointer-read = rw (target-read, ornt-read, usag-read, topi-read, mask-read) refl

pub vector_pointer-list : IsListOf vector_pointer_of vector_pointer_faults (λ layout. pointers_in (vrpt_row layout)) layout.VRPT vector_pointer_values (λ pointer. pointer) IsPointerInRange
vector_pointer-list = record {
  items = vector_pointers-items;
  fault = vector_pointers-faults;
  start = refl;
  sized = λ pointer range. refl;
  reads = vector_pointer-read;
  faultless = λ row pointer more all. (
    no_fault_under record_name labels.NAME layout.VRPT row vector_pointer_values (λ p. p.target) IsPointerInRange target-read pointer more all,
    (
      no_fault_under (number_up_to ONE_BYTE) labels.ORNT layout.VRPT row vector_pointer_values (λ p. p.ornt) IsPointerInRange ornt-read pointer more all,
      (
        no_fault_under (number_up_to ONE_BYTE) labels.USAG layout.VRPT row vector_pointer_values (λ p. p.usag) IsPointerInRange usag-read pointer more all,
        (
          no_fault_under (number_up_to ONE_BYTE) labels.TOPI layout.VRPT row vector_pointer_values (λ p. p.topi) IsPointerInRange topi-read pointer more all,
          (
            no_fault_under (number_up_to ONE_BYTE) labels.MASK layout.VRPT row vector_pointer_values (λ p. p.mask) IsPointerInRange mask-read pointer more all,
            tt,
          ),
        ),
      ),
    ),
  );
}

-- ---- FSPT

-- a pointer of a feature has no topology
pub record IsFeaturePointer (pointer : Pointer) : Type 0 where
  pub range : IsPointerInRange pointer
  pub topi : pointer.topi ≡ NULL

module _ (pointer : Pointer) (is : IsFeaturePointer pointer) where
  target-read-of_feature : in_group record_name layout.FSPT labels.NAME (feature_pointer_values pointer) ≡ Some pointer.target
  target-read-of_feature = name-read pointer.target is.range.target

  ornt-read-of_feature : in_group (number_up_to ONE_BYTE) layout.FSPT labels.ORNT (feature_pointer_values pointer) ≡ Some pointer.ornt
  ornt-read-of_feature = byte-read pointer.ornt is.range.ornt

  usag-read-of_feature : in_group (number_up_to ONE_BYTE) layout.FSPT labels.USAG (feature_pointer_values pointer) ≡ Some pointer.usag
  usag-read-of_feature = byte-read pointer.usag is.range.usag

  mask-read-of_feature : in_group (number_up_to ONE_BYTE) layout.FSPT labels.MASK (feature_pointer_values pointer) ≡ Some pointer.mask
  mask-read-of_feature = byte-read pointer.mask is.range.mask

  feature_pointer-read : feature_pointer_of layout.FSPT (feature_pointer_values pointer) ≡ Some pointer
  unfolding feature_pointer_of
  feature_pointer-read =
      rw (target-read-of_feature, ornt-read-of_feature, usag-read-of_feature, mask-read-of_feature)
      (ap (λ (topi : ℕ). Some (record { target = pointer.target; ornt = pointer.ornt; usag = pointer.usag; topi = topi; mask = pointer.mask })) (sym is.topi))

pub feature_pointer-list : IsListOf feature_pointer_of feature_pointer_faults (λ layout. pointers_in (fspt_row layout)) layout.FSPT feature_pointer_values (λ pointer. pointer) IsFeaturePointer
feature_pointer-list = record {
  items = feature_pointers-items;
  fault = feature_pointers-faults;
  start = refl;
  sized = λ pointer is. refl;
  reads = feature_pointer-read;
  faultless = λ row pointer more all. (
    no_fault_under record_name labels.NAME layout.FSPT row feature_pointer_values (λ p. p.target) IsFeaturePointer target-read-of_feature pointer more all,
    (
      no_fault_under (number_up_to ONE_BYTE) labels.ORNT layout.FSPT row feature_pointer_values (λ p. p.ornt) IsFeaturePointer ornt-read-of_feature pointer more all,
      (
        no_fault_under (number_up_to ONE_BYTE) labels.USAG layout.FSPT row feature_pointer_values (λ p. p.usag) IsFeaturePointer usag-read-of_feature pointer more all,
        (
          no_fault_under (number_up_to ONE_BYTE) labels.MASK layout.FSPT row feature_pointer_values (λ p. p.mask) IsFeaturePointer mask-read-of_feature pointer more all,
          tt,
        ),
      ),
    ),
  );
}

-- ---- FFPT

foid-read : (related : Related) → IsRelatedInRange related → in_group object_name layout.FFPT labels.LNAM (related_values related) ≡ Some related.foid
foid-read related range = object-read related.foid range.foid

rind-read : (related : Related) → IsRelatedInRange related → in_group (number_up_to ONE_BYTE) layout.FFPT labels.RIND (related_values related) ≡ Some related.rind
rind-read related range = byte-read related.rind range.rind

related-read : (related : Related) → IsRelatedInRange related → related_of layout.FFPT (related_values related) ≡ Some related
unfolding related_of
related-read related range = rw (foid-read related range, rind-read related range) refl

pub related-list : IsListOf related_of related_faults (λ layout. related_in (ffpt_row layout)) layout.FFPT related_values (λ related. related) IsRelatedInRange
related-list = record {
  items = related-items;
  fault = related-faults;
  start = refl;
  sized = λ related range. refl;
  reads = related-read;
  faultless = λ row related more all. (
    no_fault_under object_name labels.LNAM layout.FFPT row related_values (λ r. r.foid) IsRelatedInRange foid-read related more all,
    (no_fault_under (number_up_to ONE_BYTE) labels.RIND layout.FFPT row related_values (λ r. r.rind) IsRelatedInRange rind-read related more all, tt),
  );
}

-- ---- SG2D

-- a coordinate without a depth
pub record IsPoint (coord : Coord) : Type 0 where
  pub place : IsCoord coord
  pub flat : coord.z ≡ None

module _ (coord : Coord) (is : IsPoint coord) where
  point-values : point_values coord ≡ Number coord.y ∷ (Number coord.x ∷ [])
  point-values = ap (λ (z : Option ℤ). if is_none z then Number coord.y ∷ (Number coord.x ∷ []) else []) is.flat

  latitude-read : in_group (number_within LATITUDE) layout.SG2D labels.YCOO (point_values coord) ≡ Some coord.y
  latitude-read =
      ap (in_group (number_within LATITUDE) layout.SG2D labels.YCOO) point-values ∙ within-read LATITUDE coord.y is.place.latitude

  longitude-read : in_group (number_within LONGITUDE) layout.SG2D labels.XCOO (point_values coord) ≡ Some coord.x
  longitude-read =
      ap (in_group (number_within LONGITUDE) layout.SG2D labels.XCOO) point-values ∙ within-read LONGITUDE coord.x is.place.longitude

  point-read : coordinate_of layout.SG2D (point_values coord) ≡ Some coord
  unfolding coordinate_of
  point-read =
      rw (latitude-read, longitude-read) (ap (λ (z : Option ℤ). Some (record { x = coord.x; y = coord.y; z = z })) (sym is.flat))

pub point-list : IsListOf coordinate_of coordinate_faults (λ layout. coordinates_in (sg2d_row layout)) layout.SG2D point_values (λ coord. coord) IsPoint
point-list = record {
  items = coordinates-items;
  fault = coordinates-faults;
  start = refl;
  sized = λ coord is. ap length (point-values coord is);
  reads = point-read;
  faultless = λ row coord more all. (
    no_fault_under (number_within LATITUDE) labels.YCOO layout.SG2D row point_values (λ c. c.y) IsPoint latitude-read coord more all,
    (no_fault_under (number_within LONGITUDE) labels.XCOO layout.SG2D row point_values (λ c. c.x) IsPoint longitude-read coord more all, tt),
  );
}

-- ---- SG3D

-- a coordinate with a depth
abbrev pub depth_of : Coord → ℤ
depth_of coord = unwrap_or coord.z (pos 0)

pub record IsSounding (coord : Coord) : Type 0 where
  pub place : IsCoord coord
  pub deep : coord.z ≡ Some (depth_of coord)

module _ (coord : Coord) (is : IsSounding coord) where
  sounding-values : sounding_values coord ≡ Number coord.y ∷ (Number coord.x ∷ (Number (int_div (depth_of coord) (pos 10)) ∷ []))
  sounding-values =
      ap (λ (z : Option ℤ). option_map_or (λ depth. Number coord.y ∷ (Number coord.x ∷ (Number (int_div depth (pos 10)) ∷ []))) z []) is.deep

  latitude-read-of_sounding : in_group (number_within LATITUDE) layout.SG3D labels.YCOO (sounding_values coord) ≡ Some coord.y
  latitude-read-of_sounding =
      ap (in_group (number_within LATITUDE) layout.SG3D labels.YCOO) sounding-values ∙ within-read LATITUDE coord.y is.place.latitude

  longitude-read-of_sounding : in_group (number_within LONGITUDE) layout.SG3D labels.XCOO (sounding_values coord) ≡ Some coord.x
  longitude-read-of_sounding =
      ap (in_group (number_within LONGITUDE) layout.SG3D labels.XCOO) sounding-values ∙ within-read LONGITUDE coord.x is.place.longitude

  is_depth : IsDepth (depth_of coord)
  is_depth = subst (λ (z : Option ℤ). IfSome z IsDepth) is.deep is.place.depth

  depth-read-of_sounding : in_group depth_in layout.SG3D labels.VE3D (sounding_values coord) ≡ Some (depth_of coord)
  depth-read-of_sounding = ap (in_group depth_in layout.SG3D labels.VE3D) sounding-values ∙ depth-read (depth_of coord) is_depth

  sounding-read : sounding_of layout.SG3D (sounding_values coord) ≡ Some coord
  unfolding sounding_of
  sounding-read =
      rw (latitude-read-of_sounding, longitude-read-of_sounding, depth-read-of_sounding)
      (ap (λ (z : Option ℤ). Some (record { x = coord.x; y = coord.y; z = z })) (sym is.deep))

pub sounding-list : IsListOf sounding_of sounding_faults (λ layout. coordinates_in (sg3d_row layout)) layout.SG3D sounding_values (λ coord. coord) IsSounding
sounding-list = record {
  items = soundings-items;
  fault = soundings-faults;
  start = refl;
  sized = λ coord is. ap length (sounding-values coord is);
  reads = sounding-read;
  faultless = λ row coord more all. (
    no_fault_under (number_within LATITUDE) labels.YCOO layout.SG3D row sounding_values (λ c. c.y) IsSounding latitude-read-of_sounding coord more all,
    (
      no_fault_under (number_within LONGITUDE) labels.XCOO layout.SG3D row sounding_values (λ c. c.x) IsSounding longitude-read-of_sounding coord more all,
      (no_fault_under depth_in labels.VE3D layout.SG3D row sounding_values depth_of IsSounding depth-read-of_sounding coord more all, tt),
    ),
  );
}

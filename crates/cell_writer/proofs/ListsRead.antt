-- What the lists of a written record are read as: those that were written.
use Rattle.std.proofs.Common.{◌≡◌, ◌∙◌, ℕ, Bool, true, false, ◌&&◌, inl, inr, List, [], ◌∷◌, ◌++◌, ℤ, pos, Option, Some, None, Ok, refl, ap, append-nil, arith}
use Rattle.std.specs.Prelude.{All, IsNone, IsSome, codes, flat_map, if◌then◌else◌, int_div, is_none, unwrap_or}
use Rattle.std.specs.List.{AllByRecursion}
use Rattle.std.specs.Option.{option_map_or}
use Rattle.std.specs.FinMap as finite
use Rattle.std.proofs.lemmas.List.{map-id}
use Rattle.std.proofs.lemmas.List.Elements.{recursion_from_All}
use Rattle.chart_model.specs.declared.name.Name.{Name}
use Rattle.chart_model.specs.declared.cell.Feature.{Feature}
use Rattle.chart_model.specs.declared.cell.Vector.{Vector}
use Rattle.chart_model.specs.declared.record.Coord.{Coord}
use Rattle.chart_model.specs.declared.record.Pointer.{Pointer}
use Rattle.chart_model.specs.Attrs.{Attrs}
use Rattle.chart_model.specs.Cell.{IsFeature, IsVector}
use Rattle.chart_model.specs.declared.record.Related.{Related}
use Rattle.chart_model.specs.Codes.{NULL}
use Rattle.chart_model.specs.Record.{IsCoord}
use Rattle.iso8211_records.specs.declared.record.RawField.{RawField}
use Rattle.iso8211_records.specs.declared.value.Value.{Value}
use Rattle.iso8211_records.specs.Kinds.{layout_at}
use Rattle.s57_subfields.specs.Columns.{once_in}
use Rattle.s57_fields.specs.Foid.{foid_of, foid_row}
use Rattle.s57_subfields.specs.Number.{FOUR_BYTES, TWO_BYTES}
use Rattle.s57_subfields.specs.RowValues.{fields_in}
use Rattle.s57_records.specs.LayoutReadings.{subfields_of, or_dataset_fault}
use Rattle.s57_records.specs.Subfields.{Subfields}
use Rattle.cell_bytes.specs.FieldValues.{attribute_values, feature_pointer_values, point_values, related_values, sounding_values}
use Rattle.cell_bytes.specs.FieldValues.{IsEntryInRange, IsPointerInRange, IsRelatedInRange, feature_identifier_values, object_values, vector_identifier_values, vector_pointer_values}
use Rattle.cell_bytes.specs.Feature.{feature_pointer, object_name, related_object}
use Rattle.cell_bytes.specs.Layouts.{layouts}
use Rattle.cell_bytes.specs.Layouts as layout
use Rattle.cell_bytes.specs.RecordsRead.{IsFeatureEntryInRange, IsVectorInRange, feature_read, read_field, unread_identifier, vector_read}
use Rattle.cell_bytes.specs.Subfields.{b11, b12, b24}
use Rattle.cell_bytes.specs.Vector.{attribute, attributes, name_text, place, point, sounding, vector_pointer}
use Rattle.cell_writer.specs.ReadBack.{settings_of}
use Rattle.cell_writer.proofs.ReadFields.{WrittenList, has-under, is_there, lists_under, no-text, under-lists, values-items, values_of, values_under}
use Rattle.cell_writer.proofs.ReadItems.{IsFeaturePointer, IsPoint, IsSounding, attribute-list, feature_pointer-list, point-list, related-list, sounding-list, vector_pointer-list}
use Rattle.cell_writer.proofs.ReadLists.{fields_with, list-read}
use Rattle.cell_writer.proofs.ReadValues.{number-read}
use Rattle.cell_writer.proofs.RecordsRead.{ReadsLists}

-- the subfields of a written vector's record and of a written feature's, as the file's layouts have them
abbrev pub vector_subfields : ℕ → Name → Vector → Subfields
vector_subfields n name vector = subfields_of (layout_at layouts) n (vector_read name vector)

abbrev pub feature_subfields : ℕ → Name → Feature → Subfields
feature_subfields n name feature = subfields_of (layout_at layouts) n (feature_read name feature)

-- ---- the fields of a vector's lists

abbrev attv : Vector → WrittenList
attv vector = record { tag = codes "ATTV"; text = attributes vector.attrs; values = flat_map attribute_values (finite.entries vector.attrs) }

abbrev vrpt : Vector → WrittenList
vrpt vector = record { tag = codes "VRPT"; text = flat_map vector_pointer vector.pointers; values = flat_map vector_pointer_values vector.pointers }

abbrev sg2d : Vector → WrittenList
sg2d vector = record { tag = codes "SG2D"; text = flat_map point vector.coords; values = flat_map point_values vector.coords }

abbrev sg3d : Vector → WrittenList
sg3d vector = record { tag = codes "SG3D"; text = flat_map sounding vector.coords; values = flat_map sounding_values vector.coords }

under-vector : (tag : List ℕ) (name : Name) (vector : Vector)
    → values_under tag (vector_read name vector)
    ≡ values_under tag (unread_identifier ++ read_field (codes "VRID") (vector_identifier_values name vector.version))
    ++ lists_under tag (attv vector ∷ vrpt vector ∷ sg2d vector ∷ sg3d vector ∷ [])
unfolding vector_read
under-vector tag name vector =
    under-lists tag (unread_identifier ++ read_field (codes "VRID") (vector_identifier_values name vector.version))
    (attv vector ∷ vrpt vector ∷ sg2d vector ∷ sg3d vector ∷ [])

module _ (name : Name) (vector : Vector) where
  under-attv : values_under (codes "ATTV") (vector_read name vector) ≡ values_of (attv vector).text (attv vector).values
  under-attv = under-vector (codes "ATTV") name vector ∙ append-nil (values_of (attv vector).text (attv vector).values)

  under-vrpt : values_under (codes "VRPT") (vector_read name vector) ≡ values_of (vrpt vector).text (vrpt vector).values
  under-vrpt = under-vector (codes "VRPT") name vector ∙ append-nil (values_of (vrpt vector).text (vrpt vector).values)

  under-sg2d : values_under (codes "SG2D") (vector_read name vector) ≡ values_of (sg2d vector).text (sg2d vector).values
  under-sg2d = under-vector (codes "SG2D") name vector ∙ append-nil (values_of (sg2d vector).text (sg2d vector).values)

  under-sg3d : values_under (codes "SG3D") (vector_read name vector) ≡ values_of (sg3d vector).text (sg3d vector).values
  under-sg3d = under-vector (codes "SG3D") name vector ∙ append-nil (values_of (sg3d vector).text (sg3d vector).values)

-- ---- attributes and pointers of a vector

entry-spelled : (entry : ℕ × List ℕ) → IsEntryInRange entry → (byte : ℕ) × (rest : List ℕ) × (attribute entry.0 entry.1 ≡ byte ∷ rest)
unfolding attribute b12
entry-spelled entry range = (_, _, refl)

attributes-fields : (attrs : Attrs) → AllByRecursion IsEntryInRange (finite.entries attrs)
    → values_of (attributes attrs) (flat_map attribute_values (finite.entries attrs)) ≡ fields_with attribute_values (finite.entries attrs)
unfolding attributes
attributes-fields attrs range =
    values-items (λ entry. attribute entry.0 entry.1) attribute_values IsEntryInRange entry-spelled (finite.entries attrs) range

vector_pointer-spelled : (pointer : Pointer) → IsPointerInRange pointer → (byte : ℕ) × (rest : List ℕ) × (vector_pointer pointer ≡ byte ∷ rest)
unfolding vector_pointer name_text b11
vector_pointer-spelled pointer range = (_, _, refl)

module _ (n : ℕ) (name : Name) (vector : Vector) (range : IsVectorInRange (name, vector)) where
  pub attrs-read : (vector_subfields n name vector).attrs (codes "ATTV") ≡ Ok (settings_of vector.attrs)
  unfolding layouts
  attrs-read =
      ap or_dataset_fault (list-read attribute-list (fields_in n (codes "ATTV") (vector_read name vector)) (finite.entries vector.attrs)
      (under-attv name vector ∙ attributes-fields vector.attrs range.attrs) range.attrs)

  pub pointers-read : (vector_subfields n name vector).pointers (codes "VRPT") ≡ Ok vector.pointers
  unfolding layouts
  pointers-read =
      ap or_dataset_fault (list-read vector_pointer-list (fields_in n (codes "VRPT") (vector_read name vector)) vector.pointers
      (under-vrpt name vector
      ∙ values-items vector_pointer vector_pointer_values IsPointerInRange vector_pointer-spelled vector.pointers range.pointers) range.pointers)
      ∙ ap (λ (pointers : List Pointer). Ok pointers) (map-id vector.pointers)

nothing : {A : Type 0} (option : Option A) → IsNone option → option ≡ None
nothing None none = refl
nothing (Some x) none = absurd cc

something : (option : Option ℤ) → IsSome option → option ≡ Some (unwrap_or option (pos 0))
something None some = absurd cc
something (Some x) some = refl

and_false : (a : Bool) {b : Bool} → b ≡ false → (a && b) ≡ false
and_false true e = e
and_false false e = refl

-- ---- coordinates: all of them are points, or all soundings

point-spelled : (coord : Coord) → IsPoint coord → (byte : ℕ) × (rest : List ℕ) × (point coord ≡ byte ∷ rest)
unfolding point place b24
point-spelled coord is = (_, _, ap (λ (z : Option ℤ). if is_none z then place coord else []) is.flat)

point-not_sounding : (coord : Coord) → IsPoint coord → sounding coord ≡ []
unfolding sounding
point-not_sounding coord is =
    ap (λ (z : Option ℤ). option_map_or (λ depth. place coord ++ b24 (int_div depth (pos 10))) z []) is.flat

sounding-spelled : (coord : Coord) → IsSounding coord → (byte : ℕ) × (rest : List ℕ) × (sounding coord ≡ byte ∷ rest)
unfolding sounding place b24
sounding-spelled coord is =
    (_, _, ap (λ (z : Option ℤ). option_map_or (λ depth. place coord ++ b24 (int_div depth (pos 10))) z []) is.deep)

sounding-not_point : (coord : Coord) → IsSounding coord → point coord ≡ []
unfolding point
sounding-not_point coord is = ap (λ (z : Option ℤ). if is_none z then place coord else []) is.deep

are_points : (coords : List Coord) → All IsCoord coords → All (λ coord. IsNone coord.z) coords → AllByRecursion IsPoint coords
are_points coords each none =
    recursion_from_All IsPoint coords (λ k d within. record { place = each k d within; flat = nothing _ (none k d within) })

are_soundings : (coords : List Coord) → All IsCoord coords → All (λ coord. IsSome coord.z) coords → AllByRecursion IsSounding coords
are_soundings coords each some =
    recursion_from_All IsSounding coords (λ k d within. record { place = each k d within; deep = something _ (some k d within) })

-- the coordinates of a record: points, and behind them soundings, of which one list is empty
pub record AreCoordsRead (subfields : Subfields) (coords : List Coord) : Type 0 where
  pub points : List Coord
  pub soundings : List Coord
  pub points_read : subfields.coords (codes "SG2D") ≡ Ok points
  pub soundings_read : subfields.coords (codes "SG3D") ≡ Ok soundings
  pub whole : points ++ soundings ≡ coords
  pub not_both : (subfields.has (codes "SG2D") && subfields.has (codes "SG3D")) ≡ false

module _ (n : ℕ) (name : Name) (vector : Vector) where
  points-read : AllByRecursion IsPoint vector.coords → AreCoordsRead (vector_subfields n name vector) vector.coords
  unfolding layouts
  points-read all =
      let under : values_under (codes "SG2D") (vector_read name vector) ≡ fields_with point_values vector.coords =
      under-sg2d name vector ∙ values-items point point_values IsPoint point-spelled vector.coords all in
      let none : values_under (codes "SG3D") (vector_read name vector) ≡ [] =
      under-sg3d name vector
      ∙ ap (λ (text : List ℕ). values_of text (sg3d vector).values) (no-text sounding IsPoint point-not_sounding vector.coords all) in
      record {
        points = vector.coords;
        soundings = [];
        points_read = ap or_dataset_fault (list-read point-list (fields_in n (codes "SG2D") (vector_read name vector)) vector.coords under all)
            ∙ ap (λ (coords : List Coord). Ok coords) (map-id vector.coords);
        soundings_read = ap or_dataset_fault (sounding-list.fault.absent (Some layout.SG3D) (fields_in n (codes "SG3D") (vector_read name vector)) none);
        whole = append-nil vector.coords;
        not_both = and_false _ (has-under (codes "SG3D") (vector_read name vector) ∙ ap is_there none);
      }

  soundings-read : AllByRecursion IsSounding vector.coords → AreCoordsRead (vector_subfields n name vector) vector.coords
  unfolding layouts
  soundings-read all =
      let under : values_under (codes "SG3D") (vector_read name vector) ≡ fields_with sounding_values vector.coords =
      under-sg3d name vector ∙ values-items sounding sounding_values IsSounding sounding-spelled vector.coords all in
      let none : values_under (codes "SG2D") (vector_read name vector) ≡ [] =
      under-sg2d name vector
      ∙ ap (λ (text : List ℕ). values_of text (sg2d vector).values) (no-text point IsSounding sounding-not_point vector.coords all) in
      record {
        points = [];
        soundings = vector.coords;
        points_read = ap or_dataset_fault (point-list.fault.absent (Some layout.SG2D) (fields_in n (codes "SG2D") (vector_read name vector)) none);
        soundings_read = ap or_dataset_fault (list-read sounding-list (fields_in n (codes "SG3D") (vector_read name vector)) vector.coords under all)
            ∙ ap (λ (coords : List Coord). Ok coords) (map-id vector.coords);
        whole = refl;
        not_both = ap (λ (there : Bool). there && (vector_subfields n name vector).has (codes "SG3D"))
            (has-under (codes "SG2D") (vector_read name vector) ∙ ap is_there none);
      }

  pub coords-read : IsVector name vector → AreCoordsRead (vector_subfields n name vector) vector.coords
  coords-read is =
      elim is.coords.alike [
        | inl some ↦ soundings-read (are_soundings vector.coords is.coords.each some)
        | inr none ↦ points-read (are_points vector.coords is.coords.each none)
      ]

-- ---- a feature's lists

abbrev attf : Feature → WrittenList
attf feature = record { tag = codes "ATTF"; text = attributes feature.attrs; values = flat_map attribute_values (finite.entries feature.attrs) }

abbrev ffpt : Feature → WrittenList
ffpt feature = record { tag = codes "FFPT"; text = flat_map related_object feature.related; values = flat_map related_values feature.related }

abbrev fspt : Feature → WrittenList
fspt feature = record { tag = codes "FSPT"; text = flat_map feature_pointer feature.pointers; values = flat_map feature_pointer_values feature.pointers }

abbrev feature_heads : Name → Feature → List RawField
feature_heads name feature =
    unread_identifier ++ read_field (codes "FRID") (feature_identifier_values name feature) ++ read_field (codes "FOID") (object_values feature.foid)

under-feature : (tag : List ℕ) (name : Name) (feature : Feature)
    → values_under tag (feature_read name feature)
    ≡ values_under tag (feature_heads name feature) ++ lists_under tag (attf feature ∷ ffpt feature ∷ fspt feature ∷ [])
unfolding feature_read
under-feature tag name feature = under-lists tag (feature_heads name feature) (attf feature ∷ ffpt feature ∷ fspt feature ∷ [])

module _ (name : Name) (feature : Feature) where
  under-attf : values_under (codes "ATTF") (feature_read name feature) ≡ values_of (attf feature).text (attf feature).values
  under-attf = under-feature (codes "ATTF") name feature ∙ append-nil (values_of (attf feature).text (attf feature).values)

  under-ffpt : values_under (codes "FFPT") (feature_read name feature) ≡ values_of (ffpt feature).text (ffpt feature).values
  under-ffpt = under-feature (codes "FFPT") name feature ∙ append-nil (values_of (ffpt feature).text (ffpt feature).values)

  under-fspt : values_under (codes "FSPT") (feature_read name feature) ≡ values_of (fspt feature).text (fspt feature).values
  under-fspt = under-feature (codes "FSPT") name feature ∙ append-nil (values_of (fspt feature).text (fspt feature).values)

  under-foid : values_under (codes "FOID") (feature_read name feature) ≡ object_values feature.foid ∷ []
  under-foid = under-feature (codes "FOID") name feature

related-spelled : (related : Related) → IsRelatedInRange related → (byte : ℕ) × (rest : List ℕ) × (related_object related ≡ byte ∷ rest)
unfolding related_object object_name b12
related-spelled related range = (_, _, refl)

feature_pointer-spelled : (pointer : Pointer) → IsFeaturePointer pointer → (byte : ℕ) × (rest : List ℕ) × (feature_pointer pointer ≡ byte ∷ rest)
unfolding feature_pointer name_text b11
feature_pointer-spelled pointer is = (_, _, refl)

are_feature_pointers : (pointers : List Pointer) → AllByRecursion IsPointerInRange pointers → AllByRecursion (λ pointer. pointer.topi ≡ NULL) pointers
    → AllByRecursion IsFeaturePointer pointers
are_feature_pointers [] range topi = tt
are_feature_pointers (pointer ∷ pointers) range topi =
    (record { range = range.0; topi = topi.0 }, are_feature_pointers pointers range.1 topi.1)

module _ (n : ℕ) (name : Name) (feature : Feature) (range : IsFeatureEntryInRange (name, feature)) where
  pub feature_attrs-read : (feature_subfields n name feature).attrs (codes "ATTF") ≡ Ok (settings_of feature.attrs)
  unfolding layouts
  feature_attrs-read =
      ap or_dataset_fault (list-read attribute-list (fields_in n (codes "ATTF") (feature_read name feature)) (finite.entries feature.attrs)
      (under-attf name feature ∙ attributes-fields feature.attrs range.attrs) range.attrs)

  pub related-read : (feature_subfields n name feature).related (codes "FFPT") ≡ Ok feature.related
  unfolding layouts
  related-read =
      ap or_dataset_fault (list-read related-list (fields_in n (codes "FFPT") (feature_read name feature)) feature.related
      (under-ffpt name feature ∙ values-items related_object related_values IsRelatedInRange related-spelled feature.related range.related) range.related)
      ∙ ap (λ (related : List Related). Ok related) (map-id feature.related)

  pub feature_pointers-read : IsFeature name feature → (feature_subfields n name feature).pointers (codes "FSPT") ≡ Ok feature.pointers
  unfolding layouts
  feature_pointers-read is =
      let all : AllByRecursion IsFeaturePointer feature.pointers =
      are_feature_pointers feature.pointers range.pointers (recursion_from_All (λ pointer. pointer.topi ≡ NULL) feature.pointers is.topi) in
      ap or_dataset_fault (list-read feature_pointer-list (fields_in n (codes "FSPT") (feature_read name feature)) feature.pointers
      (under-fspt name feature
      ∙ values-items feature_pointer feature_pointer_values IsFeaturePointer feature_pointer-spelled feature.pointers all) all)
      ∙ ap (λ (pointers : List Pointer). Ok pointers) (map-id feature.pointers)

  foid-once : foid_of (foid_row (Some layout.FOID)) (record { number = n; tag = codes "FOID"; fields = object_values feature.foid ∷ [] }) ≡ Ok feature.foid
  unfolding foid_of once_in
  foid-once =
      let agen = range.foid.agen in let fidn = range.foid.fidn in let fids = range.foid.fids in
      let agen_is = number-read TWO_BYTES feature.foid.agen (omega arith) in
      let fidn_is = number-read FOUR_BYTES feature.foid.fidn (omega arith) in
      let fids_is = number-read TWO_BYTES feature.foid.fids (omega arith) in
      rw (agen_is, fidn_is, fids_is) refl

  pub foid-read : (feature_subfields n name feature).foid ≡ Ok feature.foid
  unfolding layouts
  foid-read =
      ap or_dataset_fault (ap (λ (fields : List (List Value)). foid_of (foid_row (Some layout.FOID)) (record { number = n; tag = codes "FOID"; fields = fields }))
      (under-foid name feature) ∙ foid-once)

-- ---- all of them

pub lists-read : ReadsLists
lists-read = record {
  vector_attrs = λ n name vector range is. attrs-read n name vector range;
  vector_pointers = λ n name vector range is. pointers-read n name vector range;
  vector_coords = λ n name vector range is.
      let read = coords-read n name vector is in
      (read.points, read.soundings, read.points_read, read.soundings_read, read.whole, read.not_both);
  feature_attrs = λ n name feature range is. feature_attrs-read n name feature range;
  feature_related = λ n name feature range is. related-read n name feature range;
  feature_pointers = λ n name feature range is. feature_pointers-read n name feature range is;
  feature_foid = λ n name feature range is. foid-read n name feature range;
}

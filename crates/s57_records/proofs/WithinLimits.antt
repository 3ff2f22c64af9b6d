-- What the fields of a record read as keeps what every record's subfields keep.
use Rattle.std.proofs.Common.{◌≡◌, ◌≢◌, ℕ, suc, ◌≤◌, true, false, not, ◌&&◌, eqb, leb, ltb, List, [], ◌∷◌, length, Option, Some, None, Result, Ok, Err, refl, sym, ap, subst, ◌∙◌, inl, inr, arith, All}
use Rattle.std.specs.Prelude.{◌↔◌, codes, IsSome, IsNone, ℤ, pos, ◌*ℤ◌, unsigned_abs, option_map, option_and_then, filter_map, slice_get}
use Rattle.std.specs.List.{AllByRecursion, list_all}
use Rattle.std.specs.Str.{bytes_eq, all_ascii_digits}
use Rattle.std.specs.Str.Parse.{digits_value}
use Rattle.std.proofs.lemmas.List.Elements.{All-from_recursion}
use Rattle.std.proofs.lemmas.Bool.{and_parts, eq-eqb, leb-true, true≢false, or_parts}
use Rattle.common_lemmas.proofs.Choices.{chosen}
use Rattle.chart_model.specs.declared.record.Attr.{Attr}
use Rattle.chart_model.specs.declared.record.Pointer.{Pointer}
use Rattle.chart_model.specs.declared.record.Coord.{Coord}
use Rattle.chart_model.specs.Key.{IsKey, is_key}
use Rattle.chart_model.specs.Record.{IsCoord, IsDepth, IsWithin, IsPlainText}
use Rattle.iso8211_formats.specs.Layout.{Layout}
use Rattle.iso8211_records.specs.declared.record.RawField.{RawField}
use Rattle.iso8211_records.specs.declared.value.Value.{Value}
use Rattle.iso8211_records.specs.declared.value.Value.TheVariants.{Number, Text, Bits}
use Rattle.s57_subfields.specs.declared.fault.FieldFault.{FieldFault}
use Rattle.s57_subfields.specs.declared.group.Groups.{Groups}
use Rattle.s57_subfields.specs.declared.subfield.Subfield.{Subfield}
use Rattle.chart_model.specs.Answers.{◌>>=◌, or_fault, unless}
use Rattle.s57_subfields.specs.Answers.{missing_field}
use Rattle.s57_subfields.specs.RowValues.{RowValues, fields_in, first_of}
use Rattle.s57_subfields.specs.Places.{subfield_of}
use Rattle.s57_subfields.specs.Columns.{once_in, once_at}
use Rattle.s57_subfields.specs.Lists.{Column, distance, groups_in_fields, list_if_there, list_in, value_in}
use Rattle.s57_subfields.specs.Number.{number_up_to, digits_up_to}
use Rattle.s57_subfields.specs.Signed.{number_within, whole_within, depth_in, LATITUDE, LONGITUDE}
use Rattle.s57_subfields.specs.Texts.{nine_digits, plain_text, is_plain, data_set_name, key_in}
use Rattle.s57_records.specs.declared.fault.DatasetFault.{DatasetFault}
use Rattle.s57_fields.specs.declared.attributes.AttributeRow.{AttributeRow}
use Rattle.s57_subfields.specs.Names.{record_name}
use Rattle.s57_fields.specs.Attributes.{attribute_row, attribute_in, attribute_columns, attributes_in}
use Rattle.s57_fields.specs.Coordinates.{coordinate_in, coordinate_columns, coordinates_in, sg2d_row, sg3d_row}
use Rattle.s57_fields.specs.Pointers.{fspt_row, pointer_in, pointer_columns, pointers_in}
use Rattle.s57_records.specs.LayoutReadings.{or_dataset_fault, under, Layouts, has_field, coords_in, subfields_of, all_subfields}
use Rattle.s57_records.proofs.Changes.{AreWithinLimits, HasKeys}

-- ---- steps

pub of_dataset_answer : {A : Type 0} (r : Result A FieldFault) (x : A) → or_dataset_fault r ≡ Ok x → r ≡ Ok x
of_dataset_answer (Ok y) x e = let same : ◌≡◌ {A = Result _ DatasetFault} (Ok y) (Ok x) = e in ap (λ z. Ok z) (ok_value y x same)
  where
    ok_value : {B : Type 0} (a b : B) → ◌≡◌ {A = Result B DatasetFault} (Ok a) (Ok b) → a ≡ b
    ok_value a b h = cc
of_dataset_answer (Err fault) x e = absurd cc

field_then : {A B : Type 0} {P : Type 0} (r : Result A FieldFault) (f : A → Result B FieldFault) (y : B) → (r >>= f) ≡ Ok y → ((x : A) → r ≡ Ok x → f x ≡ Ok y → P) → P
field_then (Ok x) f y e go = go x refl e
field_then (Err d) f y e go = absurd cc

there : {A : Type 0} (fault : FieldFault) (o : Option A) (x : A) → or_fault fault o ≡ Ok x → o ≡ Some x
there fault None x e = absurd cc
there fault (Some y) x e = cc

field_ok : {A : Type 0} (x y : A) → ◌≡◌ {A = Result A FieldFault} (Ok x) (Ok y) → x ≡ y
field_ok x y e = cc

some_in : {A B : Type 0} (f : A → Option B) (o : Option A) (y : B) → option_and_then f o ≡ Some y → (x : A) × (f x ≡ Some y)
some_in f None y e = absurd cc
some_in f (Some x) y e = (x, e)

-- a value that was read was read from some value
pub once_read : {A : Type 0} (read : Value → Option A) (row : RowValues) (subfield : Subfield) (x : A) → once_in read row subfield ≡ Ok x → (value : Value) × (read value ≡ Some x)
unfolding once_in
once_read read row subfield x e =
    field_then (or_fault (missing_field row) (once_at subfield.place)) _ x e (λ at at_e after_at.
    field_then (or_fault (missing_field row) (first_of row.fields)) _ x after_at (λ values values_e after_values.
    some_in read (slice_get values at) x (there _ _ x after_values)))

-- ---- lists

-- what each group that is read holds, all items of the list hold
kept : {A : Type 0} (P : A → Type 0) (reads : List Value → Option A) (groups : List (List Value)) → ((group : List Value) (x : A) → reads group ≡ Some x → P x) → AllByRecursion P (filter_map reads groups)
kept P reads [] each = tt
kept {A} P reads (group ∷ groups) each = one (reads group) refl (kept P reads groups each)
  where
    one : (found : Option A) → reads group ≡ found → AllByRecursion P (filter_map reads groups) → AllByRecursion P (filter_map reads (group ∷ groups))
    one None e rest = rw e rest
    one (Some x) e rest = rw e (each group x e, rest)

listed : {A : Type 0} (P : A → Type 0) (fields : List (List Value)) (fault : Option FieldFault) (items xs : List A) → AllByRecursion P items → list_if_there fields (unless fault items) ≡ Ok xs → AllByRecursion P xs
listed P [] fault items xs all e = subst (AllByRecursion P) (field_ok [] xs e) tt
listed P (values ∷ more) None items xs all e = subst (AllByRecursion P) (field_ok items xs e) all
listed P (values ∷ more) (Some fault) items xs all e = absurd cc

list_read : {A : Type 0} (P : A → Type 0) (reads : List Value → Option A) (columns : List Column) (groups : Groups) (row : RowValues) (xs : List A) → ((group : List Value) (x : A) → reads group ≡ Some x → P x) → list_in reads columns groups row ≡ Ok xs → All P xs
unfolding list_in
list_read P reads columns groups row xs each e =
    All-from_recursion P xs (listed P row.fields _ _ xs (kept P reads (groups_in_fields groups row) each) e)

then_some : {A B : Type 0} (first : Option A) (next : A → Option B) (y : B) → option_and_then next first ≡ Some y → (x : A) × (first ≡ Some x) × (next x ≡ Some y)
then_some None next y e = absurd cc
then_some (Some x) next y e = (x, refl, e)

some_is : {A : Type 0} (x y : A) → ◌≡◌ {A = Option A} (Some x) (Some y) → x ≡ y
some_is x y e = cc

-- a group's value that was read was read from some value
value_read : {A : Type 0} (read : Value → Option A) (subfield : Subfield) (group : List Value) (x : A) → value_in read subfield group ≡ Some x → (value : Value) × (read value ≡ Some x)
value_read read subfield group x e =
    let place = then_some (distance subfield.place) _ x e in
    some_in read (slice_get group place.0) x place.2

-- ---- values

below_limit : (most : ℕ) (text : List ℕ) (n : ℕ) → digits_up_to most text ≡ Some n → n ≤ most
unfolding digits_up_to
below_limit most text n e =
    elim (chosen (ltb 0 (length text) && (all_ascii_digits text && leb (digits_value 10 text) most)) (Some (digits_value 10 text)) None (Some n) e) [
      | inl h ↦
          let p = and_parts (ltb 0 (length text)) (all_ascii_digits text && leb (digits_value 10 text) most) h.0 in
          let q = and_parts (all_ascii_digits text) (leb (digits_value 10 text) most) p.1 in
          let le = leb-true (digits_value 10 text) most q.1 in
          let same = some_value (digits_value 10 text) n h.1 in
          omega (arith, le, same)
      | inr h ↦ absurd (let none = h.1 in cc)
    ]
  where
    some_value : {A : Type 0} (x y : A) → ◌≡◌ {A = Option A} (Some x) (Some y) → x ≡ y
    some_value x y h = cc

digits_are_small : (value : Value) (n : ℕ) → nine_digits value ≡ Some n → n ≤ 999999999
unfolding nine_digits
digits_are_small (Text text) n e =
    elim (chosen (leb (length text) 9) (digits_up_to 999999999 text) None (Some n) e) [
      | inl h ↦ below_limit 999999999 text n h.1
      | inr h ↦ absurd (let none = h.1 in cc)
    ]
digits_are_small (Number number) n e = absurd cc
digits_are_small (Bits bits) n e = absurd cc

within : (n : ℕ) (value : Value) (z : ℤ) → number_within n value ≡ Some z → IsWithin n z
unfolding number_within whole_within
within n (Number number) z e =
    elim (chosen (leb (unsigned_abs number) n) (Some number) None (Some z) e) [
      | inl h ↦ let same : number ≡ z = let found = h.1 in cc in subst (IsWithin n) same (leb-true _ _ h.0)
      | inr h ↦ absurd (let none = h.1 in cc)
    ]
within n (Text text) z e = of_digits (digits_up_to n text) (λ v h. below_limit n text v h) e
  where
    of_digits : (o : Option ℕ) → ((v : ℕ) → o ≡ Some v → v ≤ n) → option_map pos o ≡ Some z → IsWithin n z
    of_digits None small h = absurd cc
    of_digits (Some v) small h = let same : pos v ≡ z = cc in subst (IsWithin n) same (small v refl)
within n (Bits bits) z e = absurd cc

differs : (byte code : ℕ) → not (eqb byte code) ≡ true → byte ≢ code
differs byte code h same = true≢false (sym h ∙ ap not (eq-eqb byte code same))

plain_bytes : (text : List ℕ) → is_plain text ≡ true → AllByRecursion (λ byte. (byte ≢ 30) × (byte ≢ 31)) text
plain_bytes [] h = tt
plain_bytes (byte ∷ text) h =
    let p = and_parts (not (eqb byte 30) && not (eqb byte 31)) (list_all (λ b. not (eqb b 30) && not (eqb b 31)) text) h in
    let q = and_parts (not (eqb byte 30)) (not (eqb byte 31)) p.0 in
    ((differs byte 30 q.0, differs byte 31 q.1), plain_bytes text p.1)

plain : (value : Value) (text : List ℕ) → plain_text value ≡ Some text → IsPlainText text
unfolding plain_text
plain (Text found) text e =
    elim (chosen (is_plain found) (Some found) None (Some text) e) [
      | inl h ↦
          let same : found ≡ text = let it = h.1 in cc in
          subst IsPlainText same (All-from_recursion (λ byte. (byte ≢ 30) × (byte ≢ 31)) found (plain_bytes found h.0))
      | inr h ↦ absurd (let none = h.1 in cc)
    ]
plain (Number number) text e = absurd cc
plain (Bits bits) text e = absurd cc

-- ---- items

attribute_within : (row : AttributeRow) (group : List Value) (attr : Attr) → attribute_in row group ≡ Some attr → IsPlainText attr.value
attribute_within row group attr e =
    let code = then_some (value_in (number_up_to 65535) row.attl group) _ attr e in
    let text = then_some (value_in plain_text row.atvl group) _ attr code.2 in
    let value = value_read plain_text row.atvl group text.0 text.1 in
    subst (λ (found : Attr). IsPlainText found.value) (some_is _ attr text.2) (plain value.0 text.0 value.1)

attrs_within : (row : AttributeRow) (values : RowValues) (attrs : List Attr) → attributes_in row values ≡ Ok attrs → All (λ attr. IsPlainText attr.value) attrs
attrs_within row values attrs e =
    list_read (λ attr. IsPlainText attr.value) (attribute_in row) (attribute_columns row) row.groups values attrs (attribute_within row) e

abbrev IsFlat : Coord → Type 0
IsFlat coord = IsNone coord.z

coordinate_within :
    (layout : Option Layout) (group : List Value) (coord : Coord) →
    coordinate_in (sg2d_row layout) group ≡ Some coord → IsCoord coord × IsFlat coord
coordinate_within layout group coord e =
    let row = sg2d_row layout in
    let y = then_some (value_in (number_within LATITUDE) row.ycoo group) _ coord e in
    let x = then_some (value_in (number_within LONGITUDE) row.xcoo group) _ coord y.2 in
    let latitude = value_read (number_within LATITUDE) row.ycoo group y.0 y.1 in
    let longitude = value_read (number_within LONGITUDE) row.xcoo group x.0 x.1 in
    subst (λ (found : Coord). IsCoord found × IsFlat found) (some_is _ coord x.2) (
      record {
        longitude = within LONGITUDE longitude.0 x.0 longitude.1;
        latitude = within LATITUDE latitude.0 y.0 latitude.1;
        depth = tt;
      },
      refl,
    )

coordinates_within :
    (layout : Option Layout) (values : RowValues) (coords : List Coord) →
    coordinates_in (sg2d_row layout) values ≡ Ok coords → All IsCoord coords × All IsFlat coords
coordinates_within layout values coords e =
    let row = sg2d_row layout in
    let each = coordinate_within layout in (
      list_read IsCoord (coordinate_in row) (coordinate_columns row) row.groups values coords
          (λ group coord found. (each group coord found).0) e,
      list_read IsFlat (coordinate_in row) (coordinate_columns row) row.groups values coords
          (λ group coord found. (each group coord found).1) e,
    )

depth_made : (read : Option ℤ) (z : ℤ) → ((decimetres : ℤ) → read ≡ Some decimetres → IsWithin 999999 decimetres) → option_map (λ decimetres. decimetres *ℤ pos 10) read ≡ Some z → IsDepth z
depth_made (Some decimetres) z each e =
    let same : decimetres *ℤ pos 10 ≡ z = cc in
    (decimetres, each decimetres refl, sym same)
depth_made None z each e = absurd cc

depth_is : (value : Value) (z : ℤ) → depth_in value ≡ Some z → IsDepth z
unfolding depth_in
depth_is value z e = depth_made (number_within 999999 value) z (within 999999 value) e

abbrev IsDeep : Coord → Type 0
IsDeep coord = IsSome coord.z

sounding_within :
    (layout : Option Layout) (group : List Value) (coord : Coord) →
    coordinate_in (sg3d_row layout) group ≡ Some coord → IsCoord coord × IsDeep coord
sounding_within layout group coord e =
    let row = sg3d_row layout in
    let ve3d = subfield_of layout (codes "VE3D") in
    let y = then_some (value_in (number_within LATITUDE) row.ycoo group) _ coord e in
    let x = then_some (value_in (number_within LONGITUDE) row.xcoo group) _ coord y.2 in
    let z = then_some (value_in depth_in ve3d group) _ coord x.2 in
    let latitude = value_read (number_within LATITUDE) row.ycoo group y.0 y.1 in
    let longitude = value_read (number_within LONGITUDE) row.xcoo group x.0 x.1 in
    let depth = value_read depth_in ve3d group z.0 z.1 in
    subst (λ (found : Coord). IsCoord found × IsDeep found) (some_is _ coord z.2) (
      record {
        longitude = within LONGITUDE longitude.0 x.0 longitude.1;
        latitude = within LATITUDE latitude.0 y.0 latitude.1;
        depth = depth_is depth.0 z.0 depth.1;
      },
      refl,
    )

soundings_within :
    (layout : Option Layout) (values : RowValues) (coords : List Coord) →
    coordinates_in (sg3d_row layout) values ≡ Ok coords → All IsCoord coords × All IsDeep coords
soundings_within layout values coords e =
    let row = sg3d_row layout in
    let each = sounding_within layout in (
      list_read IsCoord (coordinate_in row) (coordinate_columns row) row.groups values coords
          (λ group coord found. (each group coord found).0) e,
      list_read IsDeep (coordinate_in row) (coordinate_columns row) row.groups values coords
          (λ group coord found. (each group coord found).1) e,
    )

no_topology :
    (layout : Option Layout) (group : List Value) (pointer : Pointer) →
    pointer_in (fspt_row layout) group ≡ Some pointer → pointer.topi ≡ 255
no_topology layout group pointer e =
    let row = fspt_row layout in
    let target = then_some (value_in record_name row.name group) _ pointer e in
    let ornt = then_some (value_in (number_up_to 255) row.ornt group) _ pointer target.2 in
    let usag = then_some (value_in (number_up_to 255) row.usag group) _ pointer ornt.2 in
    let mask = then_some (value_in (number_up_to 255) row.mask group) _ pointer usag.2 in
    ap (λ (found : Pointer). found.topi) (sym (some_is _ pointer mask.2))

topi_within :
    (layout : Option Layout) (values : RowValues) (pointers : List Pointer) →
    pointers_in (fspt_row layout) values ≡ Ok pointers → All (λ pointer. pointer.topi ≡ 255) pointers
topi_within layout values pointers e =
    let row = fspt_row layout in
    list_read (λ pointer. pointer.topi ≡ 255) (pointer_in row) (pointer_columns row) row.groups values pointers
    (no_topology layout) e

-- ---- a record

no_fields : (n : ℕ) (tag : List ℕ) (fields : List RawField) → has_field fields tag ≡ false → (fields_in n tag fields).fields ≡ []
no_fields n tag [] absent = refl
no_fields n tag (field ∷ fields) absent =
    let p = or_parts (bytes_eq field.tag tag) (has_field fields tag) absent in
    rw p.0 (no_fields n tag fields p.1)

if_absent : {A : Type 0} (fields : List (List Value)) (answer : Result (List A) FieldFault) (xs : List A) → fields ≡ [] → list_if_there fields answer ≡ Ok xs → xs ≡ []
if_absent [] answer xs none e = sym (field_ok [] xs e)
if_absent (values ∷ more) answer xs none e = absurd cc

list_absent : {A : Type 0} (reads : List Value → Option A) (columns : List Column) (groups : Groups) (row : RowValues) (xs : List A) → row.fields ≡ [] → list_in reads columns groups row ≡ Ok xs → xs ≡ []
unfolding list_in
list_absent reads columns groups row xs none e = if_absent row.fields _ xs none e

coords_absent : (layouts : Layouts) (n : ℕ) (fields : List RawField) (tag : List ℕ) (coords : List Coord) → has_field fields tag ≡ false → coords_in layouts n fields tag ≡ Ok coords → coords ≡ []
coords_absent layouts n fields tag coords absent e =
    elim (chosen (bytes_eq tag (codes "SG2D")) _ _ (Ok coords) e) [
      | inl h ↦ list_absent _ _ _ (fields_in n tag fields) coords (no_fields n tag fields absent) h.1
      | inr h ↦ list_absent _ _ _ (fields_in n tag fields) coords (no_fields n tag fields absent) h.1
    ]

pub subfields_within : (layouts : Layouts) (n : ℕ) (fields : List RawField) → AreWithinLimits (subfields_of layouts n fields)
subfields_within layouts n fields = record {
  attrs = λ tag attrs e. attrs_within (attribute_row (layouts tag)) (fields_in n tag fields) attrs (of_dataset_answer _ attrs e);
  sg2d = λ coords e. coordinates_within (layouts (codes "SG2D")) (fields_in n (codes "SG2D") fields) coords (of_dataset_answer _ coords e);
  sg3d = λ coords e. soundings_within (layouts (codes "SG3D")) (fields_in n (codes "SG3D") fields) coords (of_dataset_answer _ coords e);
  absent = λ tag coords absent e. coords_absent layouts n fields tag coords absent (of_dataset_answer _ coords e);
  digits = λ tag label number e. let r = once_read nine_digits (fields_in n tag fields) (subfield_of (layouts tag) label) number (of_dataset_answer _ number e) in digits_are_small r.0 number r.1;
  topi = λ pointers e. topi_within (layouts (codes "FSPT")) (fields_in n (codes "FSPT") fields) pointers (of_dataset_answer _ pointers e);
}

pub all_within : (layouts : Layouts) (n : ℕ) (records : List (List RawField)) → AllByRecursion AreWithinLimits (all_subfields layouts n records)
all_within layouts n [] = tt
all_within layouts n (fields ∷ records) = (subfields_within layouts n fields, all_within layouts (suc n) records)

-- ---- keys

of_name :
    {A B : Type 0} (f : A → B) (r : Result A DatasetFault) (y : B) → (r >>= λ x. Ok (f x)) ≡ Ok y →
    (x : A) × (r ≡ Ok x) × (f x ≡ y)
of_name f (Ok x) y e = (x, refl, cc)
of_name f (Err fault) y e = absurd cc

named : (value : Value) (name : List ℕ) → data_set_name value ≡ Some name → is_key (key_in name) ≡ true
unfolding data_set_name
named (Text text) name e =
    elim (chosen (is_key (key_in text)) (Some text) None (Some name) e) [
      | inl h ↦ let same : text ≡ name = let found = h.1 in cc in ap (λ (n : List ℕ). is_key (key_in n)) (sym same) ∙ h.0
      | inr h ↦ absurd (let none = h.1 in cc)
    ]
named (Number number) name e = absurd cc
named (Bits bits) name e = absurd cc

keyed : ((bytes : List ℕ) → (is_key bytes ≡ true) ↔ IsKey bytes) → (layouts : Layouts) (n : ℕ) (fields : List RawField) → HasKeys (subfields_of layouts n fields)
keyed tests layouts n fields tag label key e =
    let name = of_name key_in (under data_set_name layouts n fields tag label) key e in
    let value = once_read data_set_name (fields_in n tag fields) (subfield_of (layouts tag) label) name.0 (of_dataset_answer _ name.0 name.1) in
    subst IsKey name.2 ((tests (key_in name.0)).0 (named value.0 name.0 value.1))

pub all_keyed : ((bytes : List ℕ) → (is_key bytes ≡ true) ↔ IsKey bytes) → (layouts : Layouts) (n : ℕ) (records : List (List RawField)) → AllByRecursion HasKeys (all_subfields layouts n records)
all_keyed tests layouts n [] = tt
all_keyed tests layouts n (fields ∷ records) = (keyed tests layouts n fields, all_keyed tests layouts (suc n) records)

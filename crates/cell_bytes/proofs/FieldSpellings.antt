-- The texts of fields spell their values by the formats of their layouts.
use Rattle.std.proofs.Common.{◌≡◌, ℕ, suc, ◌<◌, ◌⊎◌, inl, inr, List, [], ◌∷◌, ◌++◌, length, Option, Some, None, refl, sym, ap, subst, ◌∙◌, arith, append_assoc, append-nil, pos, ℤ, lit<, if◌then◌else◌, is_none, IfSome, FitsSigned}
use Rattle.std.specs.Prelude.{int_div, codes}
use Rattle.std.specs.Int.{w32}
use Rattle.std.specs.List.{AllByRecursion, flat_map}
use Rattle.std.specs.Option.{option_map_or}
use Rattle.std.specs.FinMap as map
use Rattle.chart_model.specs.declared.name.Name.{Name}
use Rattle.chart_model.specs.declared.name.Foid.{Foid}
use Rattle.chart_model.specs.declared.record.Coord.{Coord}
use Rattle.chart_model.specs.declared.record.Pointer.{Pointer}
use Rattle.chart_model.specs.declared.record.Related.{Related}
use Rattle.chart_model.specs.declared.cell.Feature.{Feature}
use Rattle.chart_model.specs.Attrs.{Attrs}
use Rattle.chart_model.specs.Codes.{INSERT}
use Rattle.chart_model.specs.Record.{IsPlainText}
use Rattle.iso8211_formats.specs.declared.format.Format.{Format}
use Rattle.iso8211_formats.specs.declared.format.Format.TheVariants.{TextOpen, Text as TextOf, Unsigned, Signed, Bits as BitsOf}
use Rattle.iso8211_records.specs.declared.value.Value.{Value}
use Rattle.iso8211_records.specs.declared.value.Value.TheVariants.{Bits, Number, Text}
use Rattle.iso8211_records.specs.Spelling.{AreSpelled, IsFieldText, Spells, formats_in, groups}
use Rattle.cell_bytes.specs.Subfields.{b11, b12, b14, b24, open_text}
use Rattle.cell_bytes.specs.Vector.{attribute, attributes, name_text, place, point, sounding, vector_identifier, vector_pointer}
use Rattle.cell_bytes.specs.Feature.{object_description, feature_identifier, feature_pointer, object_name, related_object}
use Rattle.cell_bytes.specs.Layouts as layout
use Rattle.chart_model.specs.declared.dataset.Header.{Header}
use Rattle.chart_model.specs.Cell.{CellValue}
use Rattle.cell_bytes.specs.declared.data_set.Purpose.TheVariants.{NewDataSet}
use Rattle.cell_bytes.specs.DataSet.{data_set_identifier, dates_text, datum_text, exchange_text, factor_text, feature_counts}
use Rattle.cell_bytes.specs.DataSet.{name_and_numbers, number_text, parameter_text, product_text, structure_text, unit_text}
use Rattle.cell_bytes.specs.DataSet.{vector_counts}
use Rattle.cell_bytes.specs.RecordsRead.{AreCountsInRange, IsHeaderInRange, general_values, parameter_values, structure_values}
use Rattle.cell_bytes.specs.FieldValues.{IsCoordInRange, IsEntryInRange, IsFeatureInRange, IsFoidInRange, IsFourBytes}
use Rattle.cell_bytes.specs.FieldValues.{IsNameInRange, IsOneByte, IsPointerInRange, IsRelatedInRange, IsTwoBytes}
use Rattle.cell_bytes.specs.FieldValues.{attribute_values, feature_identifier_values, feature_pointer_values, natural}
use Rattle.cell_bytes.specs.FieldValues.{object_values, point_values, related_values, sounding_values}
use Rattle.cell_bytes.specs.FieldValues.{vector_identifier_values, vector_pointer_values}
use Rattle.cell_bytes.proofs.Headers.{plain_decimal, plain_name, plain_text}
use Rattle.cell_bytes.proofs.Spellings.{spells-b11, spells-b12, spells-b14, spells-b24, spells-text}

-- ---- values one after the other

record Spelt (formats : List Format) (values : List Value) (text : List ℕ) : Type 0 where
  spelled : AreSpelled formats values text

one : (format : Format) (value : Value) (text : List ℕ) → Spells format value text → Spelt (format ∷ []) (value ∷ []) text
one format value text spells = record { spelled = (text, [], sym (append-nil text), spells, refl) }

joined : (fs gs : List Format) (vs ws : List Value) (x y : List ℕ) → AreSpelled fs vs x → AreSpelled gs ws y
    → AreSpelled (fs ++ gs) (vs ++ ws) (x ++ y)
joined [] gs [] ws x y first second = subst (λ (l : List ℕ). AreSpelled gs ws (l ++ y)) (sym first) second
joined [] gs (v ∷ vs) ws x y first second = absurd first
joined (f ∷ fs) gs [] ws x y first second = absurd first
joined (f ∷ fs) gs (v ∷ vs) ws x y (front, rest, split, spells, more) second =
    (front, rest ++ y, ap (λ (l : List ℕ). l ++ y) split ∙ append_assoc front rest y, spells, joined fs gs vs ws rest y more second)

both : {fs gs : List Format} {vs ws : List Value} {x y : List ℕ} → Spelt fs vs x → Spelt gs ws y
    → Spelt (fs ++ gs) (vs ++ ws) (x ++ y)
both {fs} {gs} {vs} {ws} {x} {y} first second = record { spelled = joined fs gs vs ws x y first.spelled second.spelled }

byte : (n : ℕ) → IsOneByte n → Spelt (Unsigned 1 ∷ []) (natural n ∷ []) (b11 n)
byte n small = one (Unsigned 1) (natural n) (b11 n) (spells-b11 n small)

two : (n : ℕ) → IsTwoBytes n → Spelt (Unsigned 2 ∷ []) (natural n ∷ []) (b12 n)
two n small = one (Unsigned 2) (natural n) (b12 n) (spells-b12 n small)

four : (n : ℕ) → IsFourBytes n → Spelt (Unsigned 4 ∷ []) (natural n ∷ []) (b14 n)
four n small = one (Unsigned 4) (natural n) (b14 n) (spells-b14 n small)

whole : (z : ℤ) → FitsSigned w32 z → Spelt (Signed 4 ∷ []) (Number z ∷ []) (b24 z)
whole z fits = one (Signed 4) (Number z) (b24 z) (spells-b24 z fits)

plain : (text : List ℕ) → IsPlainText text → Spelt (TextOpen ∷ []) (Text text ∷ []) (open_text text)
plain text is = one TextOpen (Text text) (open_text text) (spells-text text is)

-- ---- groups

-- each item is one group, or nothing at all
abbrev IsGroup : {X : Type 0} → List Format → (X → List Value) → (X → List ℕ) → X → Type 0
IsGroup group values text x = Spelt group (values x) (text x) ⊎ ((values x ≡ []) × (text x ≡ []))

grouped : {X : Type 0} (group : List Format) (values : X → List Value) (text : X → List ℕ) (xs : List X)
    → AllByRecursion (IsGroup group values text) xs
    → (count : ℕ) × Spelt (groups count group) (flat_map values xs) (flat_map text xs)
grouped group values text [] each = (0, record { spelled = refl })
grouped {X} group values text (x ∷ xs) each =
    let rest = grouped group values text xs each.1 in
    elim each.0 [
      | inl here ↦ (suc rest.0, both here rest.1)
      | inr none ↦ (
        rest.0,
        subst (λ (vs : List Value). Spelt (groups rest.0 group) (vs ++ flat_map values xs) (text x ++ flat_map text xs)) (sym none.0)
            (subst (λ (t : List ℕ). Spelt (groups rest.0 group) (flat_map values xs) (t ++ flat_map text xs)) (sym none.1) rest.1),
      )
    ]

each_group : {X : Type 0} (group : List Format) (values : X → List Value) (text : X → List ℕ) (P : X → Type 0) (xs : List X)
    → ((x : X) → P x → IsGroup group values text x) → AllByRecursion P xs → AllByRecursion (IsGroup group values text) xs
each_group group values text P [] is all = tt
each_group group values text P (x ∷ xs) is all = (is x all.0, each_group group values text P xs is all.1)

-- ---- vector records

spelt-name : (name : Name) → IsNameInRange name
    → Spelt (Unsigned 1 ∷ (Unsigned 4 ∷ [])) (natural name.rcnm ∷ (natural name.rcid ∷ [])) (name_text name)
unfolding name_text
spelt-name name range = both (byte name.rcnm range.rcnm) (four name.rcid range.rcid)

pub vector_identifier-spelled : (name : Name) (version : ℕ) → IsNameInRange name → IsTwoBytes version
    → IsFieldText (formats_in layout.VRID) (vector_identifier_values name version) (vector_identifier name version)
unfolding vector_identifier
vector_identifier-spelled name version range small =
    (0, (both (both (spelt-name name range) (two version small)) (byte INSERT (lit< tt))).spelled)

spelt-attribute : (entry : ℕ × List ℕ) → IsEntryInRange entry
    → Spelt (Unsigned 2 ∷ (TextOpen ∷ [])) (attribute_values entry) (attribute entry.0 entry.1)
unfolding attribute
spelt-attribute entry range = both (two entry.0 range.code) (plain entry.1 range.text)

pub attributes-spelled : (attrs : Attrs) → AllByRecursion IsEntryInRange (map.entries attrs)
    → IsFieldText (formats_in layout.ATTRIBUTES) (flat_map attribute_values (map.entries attrs)) (attributes attrs)
unfolding attributes
attributes-spelled attrs all =
    let text : ℕ × List ℕ → List ℕ = λ entry. attribute entry.0 entry.1 in
    let whole = grouped (Unsigned 2 ∷ (TextOpen ∷ [])) attribute_values text (map.entries attrs)
    (each_group (Unsigned 2 ∷ (TextOpen ∷ [])) attribute_values text IsEntryInRange (map.entries attrs) (λ e r. inl (spelt-attribute e r)) all) in
    (whole.0, whole.1.spelled)

bits-name : (name : Name) → Spelt (BitsOf 40 ∷ []) (Bits (name_text name) ∷ []) (name_text name)
unfolding name_text b11 b14
bits-name name = one (BitsOf 40) (Bits (name_text name)) (name_text name) (lit< tt, refl, refl)

pub vector_pointers-spelled : (pointers : List Pointer) → AllByRecursion IsPointerInRange pointers
    → IsFieldText (formats_in layout.VRPT) (flat_map vector_pointer_values pointers) (flat_map vector_pointer pointers)
unfolding vector_pointer
vector_pointers-spelled pointers all =
    let formats : List Format = BitsOf 40 ∷ (Unsigned 1 ∷ (Unsigned 1 ∷ (Unsigned 1 ∷ (Unsigned 1 ∷ [])))) in
    let spelt : (p : Pointer) → IsPointerInRange p → IsGroup formats vector_pointer_values vector_pointer p = λ p r.
    inl (both (both (both (both (bits-name p.target) (byte p.ornt r.ornt)) (byte p.usag r.usag)) (byte p.topi r.topi)) (byte p.mask r.mask)) in
    let whole = grouped formats vector_pointer_values vector_pointer pointers
    (each_group formats vector_pointer_values vector_pointer IsPointerInRange pointers spelt all) in
    (whole.0, whole.1.spelled)

spelt-place : (coord : Coord) → IsCoordInRange coord
    → Spelt (Signed 4 ∷ (Signed 4 ∷ [])) (Number coord.y ∷ (Number coord.x ∷ [])) (place coord)
unfolding place
spelt-place coord range = both (whole coord.y range.y) (whole coord.x range.x)

group-point : (coord : Coord) → IsCoordInRange coord → IsGroup (Signed 4 ∷ (Signed 4 ∷ [])) point_values point coord
unfolding point
group-point coord range =
    elim coord.z as (λ (z : Option ℤ). coord.z ≡ z → IsGroup (Signed 4 ∷ (Signed 4 ∷ [])) point_values point coord) [
      | None ↦ λ e. inl (subst (λ (z : Option ℤ). Spelt (Signed 4 ∷ (Signed 4 ∷ []))
          (if is_none z then Number coord.y ∷ (Number coord.x ∷ []) else []) (if is_none z then place coord else [])) (sym e) (spelt-place coord range))
      | Some depth ↦ λ e. inr (
        ap (λ (z : Option ℤ). if is_none z then Number coord.y ∷ (Number coord.x ∷ []) else []) e,
        ap (λ (z : Option ℤ). if is_none z then place coord else []) e,
      )
    ] refl

pub points-spelled : (coords : List Coord) → AllByRecursion IsCoordInRange coords
    → IsFieldText (formats_in layout.SG2D) (flat_map point_values coords) (flat_map point coords)
points-spelled coords all =
    let formats : List Format = Signed 4 ∷ (Signed 4 ∷ []) in
    let whole = grouped formats point_values point coords (each_group formats point_values point IsCoordInRange coords group-point all) in
    (whole.0, whole.1.spelled)

group-sounding : (coord : Coord) → IsCoordInRange coord
    → IsGroup (Signed 4 ∷ (Signed 4 ∷ (Signed 4 ∷ []))) sounding_values sounding coord
unfolding sounding
group-sounding coord range =
    let formats : List Format = Signed 4 ∷ (Signed 4 ∷ (Signed 4 ∷ [])) in
    let values : ℤ → List Value = λ depth. Number coord.y ∷ (Number coord.x ∷ (Number (int_div depth (pos 10)) ∷ [])) in
    let text : ℤ → List ℕ = λ depth. place coord ++ b24 (int_div depth (pos 10)) in
    elim coord.z as (λ (z : Option ℤ). coord.z ≡ z → IsGroup formats sounding_values sounding coord) [
      | None ↦ λ e. inr (ap (λ (z : Option ℤ). option_map_or values z []) e, ap (λ (z : Option ℤ). option_map_or text z []) e)
      | Some depth ↦ λ e.
          let fits : FitsSigned w32 (int_div depth (pos 10)) = subst (λ (z : Option ℤ). IfSome z (λ d. FitsSigned w32 (int_div d (pos 10)))) e range.z in
          inl (subst (λ (z : Option ℤ). Spelt formats (option_map_or values z []) (option_map_or text z [])) (sym e)
          (both (spelt-place coord range) (whole (int_div depth (pos 10)) fits)))
    ] refl

pub soundings-spelled : (coords : List Coord) → AllByRecursion IsCoordInRange coords
    → IsFieldText (formats_in layout.SG3D) (flat_map sounding_values coords) (flat_map sounding coords)
soundings-spelled coords all =
    let formats : List Format = Signed 4 ∷ (Signed 4 ∷ (Signed 4 ∷ [])) in
    let whole = grouped formats sounding_values sounding coords (each_group formats sounding_values sounding IsCoordInRange coords group-sounding all) in
    (whole.0, whole.1.spelled)

-- ---- features

pub feature_identifier-spelled : (name : Name) (feature : Feature) → IsNameInRange name → IsFeatureInRange feature
    → IsFieldText (formats_in layout.FRID) (feature_identifier_values name feature) (feature_identifier name feature)
unfolding feature_identifier object_description
feature_identifier-spelled name feature range small = (
  0,
  (both (both (spelt-name name range)
      (both (both (both (byte feature.prim small.prim) (byte feature.grup small.grup)) (two feature.class small.class)) (two feature.version small.version)))
      (byte INSERT (lit< tt))).spelled,
)

pub foid-spelled : (foid : Foid) → IsFoidInRange foid
    → IsFieldText (formats_in layout.FOID) (object_values foid) (object_name foid)
unfolding object_name
foid-spelled foid range = (0, (both (both (two foid.agen range.agen) (four foid.fidn range.fidn)) (two foid.fids range.fids)).spelled)

bits-object : (foid : Foid) → Spelt (BitsOf 64 ∷ []) (Bits (object_name foid) ∷ []) (object_name foid)
unfolding object_name b12 b14
bits-object foid = one (BitsOf 64) (Bits (object_name foid)) (object_name foid) (lit< tt, refl, refl)

pub related-spelled : (related : List Related) → AllByRecursion IsRelatedInRange related
    → IsFieldText (formats_in layout.FFPT) (flat_map related_values related) (flat_map related_object related)
unfolding related_object
related-spelled related all =
    let formats : List Format = BitsOf 64 ∷ (Unsigned 1 ∷ (TextOpen ∷ [])) in
    let spelt : (r : Related) → IsRelatedInRange r → IsGroup formats related_values related_object r = λ r range.
    inl (both (both (bits-object r.foid) (byte r.rind range.rind)) (plain [] (plain_text [] refl))) in
    let whole = grouped formats related_values related_object related
    (each_group formats related_values related_object IsRelatedInRange related spelt all) in
    (whole.0, whole.1.spelled)

pub feature_pointers-spelled : (pointers : List Pointer) → AllByRecursion IsPointerInRange pointers
    → IsFieldText (formats_in layout.FSPT) (flat_map feature_pointer_values pointers) (flat_map feature_pointer pointers)
unfolding feature_pointer
feature_pointers-spelled pointers all =
    let formats : List Format = BitsOf 40 ∷ (Unsigned 1 ∷ (Unsigned 1 ∷ (Unsigned 1 ∷ []))) in
    let spelt : (p : Pointer) → IsPointerInRange p → IsGroup formats feature_pointer_values feature_pointer p = λ p r.
    inl (both (both (both (bits-name p.target) (byte p.ornt r.ornt)) (byte p.usag r.usag)) (byte p.mask r.mask)) in
    let whole = grouped formats feature_pointer_values feature_pointer pointers
    (each_group formats feature_pointer_values feature_pointer IsPointerInRange pointers spelt all) in
    (whole.0, whole.1.spelled)

-- ---- general information

width : (text : List ℕ) (n : ℕ) → 0 < n → length text ≡ n → Spelt (TextOf n ∷ []) (Text text ∷ []) text
width text n some long = one (TextOf n) (Text text) text (some, long, refl)

pub general-spelled : (header : Header) → IsHeaderInRange header
    → IsFieldText (formats_in layout.DSID) (general_values NewDataSet header) (data_set_identifier NewDataSet header)
unfolding data_set_identifier exchange_text name_and_numbers number_text dates_text product_text
general-spelled header range =
    let exchange = both (both (both (byte 10 (lit< tt)) (four 1 (lit< tt))) (byte 1 (lit< tt))) (byte 5 (lit< tt)) in
    let names = both (both (plain _ (plain_name header range.chart)) (plain _ (plain_decimal header.edition (omega (arith, range.chart.edition.1)))))
    (plain _ (plain_decimal header.update (omega (arith, range.chart.update)))) in
    let dates = both (both (width header.issued 8 (lit< tt) range.issued) (width header.issued 8 (lit< tt) range.issued)) (width (codes "03.1") 4 (lit< tt) refl) in
    let product = both (both (both (both (both (byte 1 (lit< tt)) (plain [] (plain_text [] refl))) (plain (codes "2.0") (plain_text (codes "2.0") refl))) (byte 1 (lit< tt))) (two header.agency range.agency)) (plain [] (plain_text [] refl)) in
    (0, (both (both (both exchange names) dates) product).spelled)

pub structure-spelled : (cell : CellValue) → AreCountsInRange cell
    → IsFieldText (formats_in layout.DSSI) (structure_values cell) (structure_text cell)
unfolding structure_text feature_counts vector_counts
structure-spelled cell range =
    let features = both (both (both (four _ range.features.meta) (four _ range.features.cartographic)) (four _ range.features.geographic)) (four _ range.features.collection) in
    let vectors = both (both (both (four _ range.vectors.isolated) (four _ range.vectors.connected)) (four _ range.vectors.edges)) (four 0 (lit< tt)) in
    (0, (both (both (both (both (byte 2 (lit< tt)) (byte 1 (lit< tt))) (byte 0 (lit< tt))) features) vectors).spelled)

pub parameters-spelled : (scale : ℕ) → IsFourBytes scale
    → IsFieldText (formats_in layout.DSPM) (parameter_values scale) (parameter_text scale)
unfolding parameter_text datum_text unit_text factor_text
parameters-spelled scale range =
    let datum = both (both (both (both (both (byte 20 (lit< tt)) (four 1 (lit< tt))) (byte 2 (lit< tt))) (byte 1 (lit< tt))) (byte 1 (lit< tt))) (four scale range) in
    let unit = both (both (both (byte 1 (lit< tt)) (byte 1 (lit< tt))) (byte 1 (lit< tt))) (byte 1 (lit< tt)) in
    let factor = both (both (four 10000000 (lit< tt)) (four 10 (lit< tt))) (plain [] (plain_text [] refl)) in
    (0, (both (both datum unit) factor).spelled)

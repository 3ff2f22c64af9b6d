-- The dangerous objects of a feature are those of its list.
use Rattle.std.proofs.Common.{◌≡◌, inl, inr, ℕ, nat_le, eqb, ℤ, ◌≤ℤ◌, int_le, Bool, true, false, cond, ◌||◌, ◌&&◌, List, [], ◌∷◌, Option, Some, None, refl, sym, ap, ◌∙◌, subst, arith}
use Rattle.std.specs.Prelude.{option_map, not}
use Rattle.std.specs.Bool.{Decides}
use Rattle.std.specs.List.{flat_map, enumerate_from}
use Rattle.std.proofs.lemmas.Int.{ints}
use Rattle.std.proofs.lemmas.Bool.Decides.{Decides-eqb, Decides-and, Decides-or, Decides-like}
use Rattle.chart_model.specs.declared.record.Coord.{Coord}
use Rattle.chart_model.specs.declared.cell.Feature.{Feature}
use Rattle.chart_model.specs.declared.settings.Settings.{Settings}
use Rattle.chart_model.specs.Cell.{CellValue}
use Rattle.chart_model.specs.Codes.{POINT, AREA}
use Rattle.chart_model.proofs.KeyTests.{Decides-le}
use Rattle.plane_geometry.specs.declared.point.Pt.{Pt}
use Rattle.area_rings.specs.declared.shape.Shape.{Shape}
use Rattle.area_rings.specs.declared.shape.Shape.TheVariants.{Points, Lines, Rings, Bare}
use Rattle.area_rings.specs.Shape.{shape_of, points_of, lines_of, rings_of}
use Rattle.depth_values.specs.Codes.{OBSTRN, UWTROC, WRECKS}
use Rattle.depth_values.specs.Hazard.{hazard_depth}
use Rattle.depth_values.specs.Safety.{is_unsafe_area, is_safe_area}
use Rattle.route_check.specs.Object.{ObjectValue}
use Rattle.route_check.specs.Danger.{SOUNDG, IsHazard, IsDangerous, IsWhole, IsSounding, IsObject, is_hazard, is_dangerous, is_shallow, whole_of, sounding_at, soundings_in, objects_at}
use Rattle.common_lemmas.proofs.Members.{Has}
use Rattle.route_check.proofs.Members.{comes, goes}
use Rattle.route_check.proofs.Numbered.{IsNumbered, numbered_out, numbered_again}

-- ---- the tests

Decides-int_le : (a b : ℤ) → Decides (int_le a b) (a ≤ℤ b)
Decides-int_le a b = (λ e. grind (arith, ints), λ h. grind (arith, ints))

Decides-hazard : (feature : Feature) → Decides (is_hazard feature) (IsHazard feature)
Decides-hazard feature =
    Decides-like (is_hazard feature) (λ h. record { class = h.0; prim = h.1 }) (λ h. (h.class, h.prim))
    (Decides-and _ _
    (Decides-or _ _ (Decides-eqb feature.class OBSTRN) (Decides-or _ _ (Decides-eqb feature.class UWTROC) (Decides-eqb feature.class WRECKS)))
    (Decides-and _ _ (Decides-le POINT feature.prim) (Decides-le feature.prim AREA)))

pub Decides-dangerous : (cell : CellValue) (settings : Settings) (feature : Feature) → Decides (is_dangerous cell settings feature) (IsDangerous cell settings feature)
Decides-dangerous cell settings feature =
    Decides-or _ _ (λ e. e, λ e. e)
    (Decides-and _ _ (Decides-hazard feature) (Decides-int_le (hazard_depth cell feature) settings.safety_contour))

-- a sounding up to the safety depth
record IsShallow (safety_depth : ℤ) (z : Option ℤ) : Type 0 where
  pub depth : ℤ
  pub deep : z ≡ Some depth
  pub shallow : depth ≤ℤ safety_depth

shallow_out : (safety_depth : ℤ) (z : Option ℤ) → is_shallow safety_depth z ≡ true → IsShallow safety_depth z
shallow_out safety_depth None e = absurd (let no : ◌≡◌ {A = Bool} false true = e in cc)
shallow_out safety_depth (Some depth) e = record { depth = depth; deep = refl; shallow = (Decides-int_le depth safety_depth).0 e }

shallow_in : (safety_depth : ℤ) (z : Option ℤ) (depth : ℤ) → z ≡ Some depth → depth ≤ℤ safety_depth → is_shallow safety_depth z ≡ true
shallow_in safety_depth z depth e le = ap (is_shallow safety_depth) e ∙ (Decides-int_le depth safety_depth).1 le

-- ---- soundings are no dangerous features

-- only point features have points for a shape
point_of_shape : (cell : CellValue) (feature : Feature) (coords : List Coord) → shape_of cell feature ≡ Some (Points coords) → feature.prim ≡ 1
unfolding shape_of
point_of_shape cell feature coords e =
    by (eqb feature.prim 1) (eqb feature.prim 2) (eqb feature.prim 3) (eqb feature.prim 255) refl (lines_of cell feature.pointers) (rings_of cell feature.pointers) e
  where
    by : (a b c d : Bool) → eqb feature.prim 1 ≡ a → (lines rings : Option (List (List Pt)))
        → cond a (option_map Points (points_of cell feature.pointers)) (cond b (option_map Lines lines) (cond c (option_map Rings rings) (cond d (Some Bare) None))) ≡ Some (Points coords) → feature.prim ≡ 1
    by true b c d is lines rings e = (Decides-eqb feature.prim 1).0 is
    by false true c d is None rings e = absurd (let no : ◌≡◌ {A = Option Shape} None (Some (Points coords)) = e in cc)
    by false true c d is (Some lines) rings e = absurd (let no : ◌≡◌ {A = Option Shape} (Some (Lines lines)) (Some (Points coords)) = e in cc)
    by false false true d is lines None e = absurd (let no : ◌≡◌ {A = Option Shape} None (Some (Points coords)) = e in cc)
    by false false true d is lines (Some rings) e = absurd (let no : ◌≡◌ {A = Option Shape} (Some (Rings rings)) (Some (Points coords)) = e in cc)
    by false false false true is lines rings e = absurd (let no : ◌≡◌ {A = Option Shape} (Some Bare) (Some (Points coords)) = e in cc)
    by false false false false is lines rings e = absurd (let no : ◌≡◌ {A = Option Shape} None (Some (Points coords)) = e in cc)

-- a point is no area, and a sounding is no hazard
harmless : (contour : ℤ) (cell : CellValue) (feature : Feature) (deep : Bool) → feature.prim ≡ 1 → feature.class ≡ SOUNDG
    → (is_unsafe_area contour feature || (is_hazard feature && deep)) ≡ false
harmless contour cell feature deep prim class =
    (λ i. (eqb (prim i) AREA && (eqb feature.grup 1 && not (is_safe_area contour feature)))
    || ((((eqb (class i) OBSTRN) || ((eqb (class i) UWTROC) || (eqb (class i) WRECKS))) && (nat_le POINT feature.prim && nat_le feature.prim AREA)) && deep))

-- ---- a feature's objects

pub one_has : {X : Type 0} (b : Bool) (x y : X) → Has y (cond b (x ∷ []) []) → (b ≡ true) × (x ≡ y)
one_has true x y (inl e) = (refl, e)
one_has true x y (inr h) = absurd h
one_has false x y h = absurd h

module _ (settings : Settings) (key : List ℕ) (cell : CellValue) (rcid : ℕ) (feature : Feature) where
  abbrev object : ℕ → Shape → ObjectValue
  object place shape = record { key = key; rcid = rcid; place = place; shape = shape }

  -- an object of the feature, under its key and its number
  pub record IsOf (o : ObjectValue) : Type 0 where
    pub key_is : o.key ≡ key
    pub rcid_is : o.rcid ≡ rcid
    pub object_is : IsObject cell settings feature o.place o.shape

  of_same : (place : ℕ) (shape : Shape) (o : ObjectValue) → object place shape ≡ o → IsObject cell settings feature place shape → IsOf o
  of_same place shape o e is = subst IsOf e (record { key_is = refl; rcid_is = refl; object_is = is })

  whole_out : (o : ObjectValue) (shape : Option Shape) → shape_of cell feature ≡ shape → IsDangerous cell settings feature → Has o (whole_of key rcid shape) → IsOf o
  whole_out o None shaped dangerous h = absurd h
  whole_out o (Some shape) shaped dangerous (inl e) =
      of_same 0 shape o e (inl (record { placed = refl; shaped = shaped; dangerous = dangerous }))
  whole_out o (Some shape) shaped dangerous (inr h) = absurd h

  coord_out : (o : ObjectValue) (coords : List Coord) (place : ℕ) (coord : Coord) → shape_of cell feature ≡ Some (Points coords) → feature.class ≡ SOUNDG
      → IsNumbered coords 1 place coord → Has o (sounding_at key rcid settings.safety_depth (place, coord)) → IsOf o
  coord_out o coords place coord shaped class numbered h =
      let one = one_has (is_shallow settings.safety_depth coord.z) (object place (Points (coord ∷ []))) o h in
      let deep = shallow_out settings.safety_depth coord.z one.0 in
      of_same place (Points (coord ∷ [])) o one.1 (inr (record {
        class = class;
        coords = coords;
        points = shaped;
        counted = numbered.from;
        coord = coord;
        there = numbered.there;
        depth = deep.depth;
        deep = deep.deep;
        shallow = deep.shallow;
        alone = refl;
      }))

  soundings_out : (o : ObjectValue) (shape : Option Shape) → shape_of cell feature ≡ shape → feature.class ≡ SOUNDG → Has o (soundings_in key rcid settings.safety_depth shape) → IsOf o
  soundings_out o None shaped class h = absurd h
  soundings_out o (Some (Points coords)) shaped class h =
      let c = comes (sounding_at key rcid settings.safety_depth) (enumerate_from 1 coords) o h in
      coord_out o coords c.from.0 c.from.1 shaped class (numbered_out coords 1 c.from.0 c.from.1 c.among) c.gives
  soundings_out o (Some (Lines lines)) shaped class h = absurd h
  soundings_out o (Some (Rings rings)) shaped class h = absurd h
  soundings_out o (Some Bare) shaped class h = absurd h

  pub object_out : (o : ObjectValue) → Has o (objects_at settings key cell rcid feature) → IsOf o
  object_out o h = by (is_dangerous cell settings feature) (eqb feature.class SOUNDG) refl refl h
    where
      by : (a b : Bool) → is_dangerous cell settings feature ≡ a → eqb feature.class SOUNDG ≡ b
          → Has o (cond a (whole_of key rcid (shape_of cell feature)) (cond b (soundings_in key rcid settings.safety_depth (shape_of cell feature)) [])) → IsOf o
      by true b is class h = whole_out o (shape_of cell feature) refl ((Decides-dangerous cell settings feature).0 is) h
      by false true is class h = soundings_out o (shape_of cell feature) refl ((Decides-eqb feature.class SOUNDG).0 class) h
      by false false is class h = absurd h

  whole_in : (place : ℕ) (shape : Shape) → IsWhole cell settings feature place shape → Has (object place shape) (objects_at settings key cell rcid feature)
  whole_in place shape w =
      let is = (Decides-dangerous cell settings feature).1 w.dangerous in
      subst (λ (os : List ObjectValue). Has (object place shape) os)
      (sym (ap (λ (b : Bool). cond b (whole_of key rcid (shape_of cell feature)) (cond (eqb feature.class SOUNDG) (soundings_in key rcid settings.safety_depth (shape_of cell feature)) [])) is ∙ ap (whole_of key rcid) w.shaped))
      (inl (ap (λ (k : ℕ). object k shape) (sym w.placed)))

  sounding_in : (place : ℕ) (shape : Shape) → IsSounding cell settings feature place shape → Has (object place shape) (objects_at settings key cell rcid feature)
  sounding_in place shape s =
      let class = (Decides-eqb feature.class SOUNDG).1 s.class in
      let safe = harmless settings.safety_contour cell feature (int_le (hazard_depth cell feature) settings.safety_contour) (point_of_shape cell feature s.coords s.points) s.class in
      let shallow = shallow_in settings.safety_depth s.coord.z s.depth s.deep s.shallow in
      let soundings = λ (o : Option Shape). soundings_in key rcid settings.safety_depth o in
      let list : objects_at settings key cell rcid feature ≡ flat_map (sounding_at key rcid settings.safety_depth) (enumerate_from 1 s.coords) =
      ap (λ (b : Bool). cond b (whole_of key rcid (shape_of cell feature)) (cond (eqb feature.class SOUNDG) (soundings (shape_of cell feature)) [])) safe
      ∙ ap (λ (b : Bool). cond b (soundings (shape_of cell feature)) []) class
      ∙ ap soundings s.points in
      subst (λ (os : List ObjectValue). Has (object place shape) os) (sym list)
      (goes (sounding_at key rcid settings.safety_depth) (enumerate_from 1 s.coords) (place, s.coord) (object place shape)
      (numbered_again s.coords 1 place s.coord (record { from = s.counted; there = s.there }))
      (subst (λ (b : Bool). Has (object place shape) (cond b (object place (Points (s.coord ∷ [])) ∷ []) [])) (sym shallow) (inl (ap (object place) (sym s.alone)))))

  pub object_in : (place : ℕ) (shape : Shape) → IsObject cell settings feature place shape → Has (object place shape) (objects_at settings key cell rcid feature)
  object_in place shape (inl w) = whole_in place shape w
  object_in place shape (inr s) = sounding_in place shape s

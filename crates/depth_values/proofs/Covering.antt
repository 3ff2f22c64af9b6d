-- Areas that are added to a list, and what they cover.
use Rattle.std.proofs.Common.{◌≡◌, ◌≢◌, ◌⊎◌, inl, inr, ℕ, ◌+◌, ◌<◌, ◌≤◌, ℤ, List, [], ◌∷◌, ◌++◌, map, length, get_or, set, Option, Some, IfSome, refl, sym, ap, ◌∙◌, subst, arith, length-append}
use Rattle.std.specs.Prelude.{slice_get, option_map}
use Rattle.std.specs.List.{All, Contains}
use Rattle.std.proofs.Math.Seq.{map-set_same, get_or-append_seam}
use Rattle.std.proofs.lemmas.Bool.{cases_lt}
use Rattle.std.proofs.lemmas.List.{get_or_default, get_or-map, get_or_append_left, get_or-set_same, get_or-set_other, length-map, length-set, map-append}
use Rattle.std.proofs.lemmas.List.Elements.{All-push, All-head, All-tail, Contains-append_left, Contains-append_right, Contains-append_cases, Contains-push, Contains-push_cases}
use Rattle.std.proofs.lemmas.Option.{slice_get_within, slice_get-get_or, slice_get-map, slice_get_read, get_or_from_slice_get}
use Rattle.plane_geometry.specs.declared.point.Pt.{Pt}
use Rattle.depth_values.specs.DepthArea.{AreaValue, ExtentValue}
use Rattle.depth_values.specs.Covering.{rings_at, value_of, values_of, Covers, IsCovered, AreShared, AreCovering}
use Rattle.depth_values.specs.declared.depth_area.DepthArea.{DepthArea}

abbrev rings : ExtentValue → List (List Pt)
rings extent = extent.rings

-- ---- the list of areas

rings_kept : (extents : List ExtentValue) (extent : ExtentValue) (k : ℕ) → k < length extents → rings_at (extents ++ extent ∷ []) k ≡ rings_at extents k
rings_kept extents extent k lt =
    get_or-map rings (extents ++ extent ∷ []) k extent [] (omega (arith, lt, length-append extents (extent ∷ [])))
    ∙ ap rings (get_or_append_left extents (extent ∷ []) extent k lt)
    ∙ sym (get_or-map rings extents k extent [] lt)

rings_new : (extents : List ExtentValue) (extent : ExtentValue) → rings_at (extents ++ extent ∷ []) (length extents) ≡ extent.rings
rings_new extents extent =
    get_or-map rings (extents ++ extent ∷ []) (length extents) extent [] (omega (arith, length-append extents (extent ∷ [])))
    ∙ ap rings (get_or-append_seam extents extent [] extent)

abbrev AreWithin : List ExtentValue → List DepthArea → Type 0
AreWithin extents areas = All (λ (area : DepthArea). area.extent < length extents) areas

values_kept : (extents : List ExtentValue) (extent : ExtentValue) (areas : List DepthArea) → AreWithin extents areas → values_of (extents ++ extent ∷ []) areas ≡ values_of extents areas
values_kept extents extent [] within = refl
values_kept extents extent (area ∷ areas) within =
    let here = rings_kept extents extent area.extent (All-head (λ (a : DepthArea). a.extent < length extents) area areas within) in
    let others = values_kept extents extent areas (All-tail (λ (a : DepthArea). a.extent < length extents) area areas within) in
    λ i. record { name = area.name; d1 = area.d1; rings = here i } ∷ others i

-- an area more, with rings of its own
own_values : (extents : List ExtentValue) (extent : ExtentValue) (areas : List DepthArea) (area : DepthArea) → area.extent ≡ length extents → AreWithin extents areas
    → values_of (extents ++ extent ∷ []) (areas ++ area ∷ []) ≡ values_of extents areas ++ record { name = area.name; d1 = area.d1; rings = extent.rings } ∷ []
own_values extents extent areas area last within =
    let kept = values_kept extents extent areas within in
    let new : rings_at (extents ++ extent ∷ []) area.extent ≡ extent.rings = ap (rings_at (extents ++ extent ∷ [])) last ∙ rings_new extents extent in
    let both : List AreaValue → List (List Pt) → List AreaValue = λ values own. values ++ record { name = area.name; d1 = area.d1; rings = own } ∷ [] in
    map-append (value_of (extents ++ extent ∷ [])) areas (area ∷ []) ∙ (λ i. both (kept i) (new i))

-- an area more, that covers what another does: of that the places alone are others
twin_values : (extents : List ExtentValue) (k : ℕ) (old new : ExtentValue) (areas : List DepthArea) (area : DepthArea) → new.rings ≡ (get_or extents k old).rings
    → values_of (set extents k new) (areas ++ area ∷ []) ≡ values_of extents areas ++ value_of extents area ∷ []
twin_values extents k old new areas area same =
    let by : List (List (List Pt)) → List AreaValue =
    λ all. map (λ (a : DepthArea). record { name = a.name; d1 = a.d1; rings = get_or all a.extent [] }) (areas ++ area ∷ []) in
    ap by (map-set_same rings extents k new old same) ∙ map-append (value_of extents) areas (area ∷ [])

-- ---- the places of areas

covers_kept : (areas : List AreaValue) (area : AreaValue) (extent : ExtentValue) (place : ℕ) → Covers areas extent place → Covers (areas ++ area ∷ []) extent place
covers_kept areas area extent place h =
    let lt = slice_get_within areas place h.area h.there in
    record {
      area = h.area;
      there =
          slice_get-get_or (areas ++ area ∷ []) place h.area (omega (arith, lt, length-append areas (area ∷ [])))
          ∙ ap Some (get_or_append_left areas (area ∷ []) h.area place lt ∙ get_or_from_slice_get areas place h.area h.area h.there);
      same = h.same;
    }

covers_new : (areas : List AreaValue) (area : AreaValue) (extent : ExtentValue) (place : ℕ) → length areas ≡ place → area.rings ≡ extent.rings → Covers (areas ++ area ∷ []) extent place
covers_new areas area extent place last same = record {
  area = area;
  there =
      ap (slice_get (areas ++ area ∷ [])) (sym last)
      ∙ slice_get-get_or (areas ++ area ∷ []) (length areas) area (omega (arith, length-append areas (area ∷ [])))
      ∙ ap Some (get_or-append_seam areas area [] area);
  same = same;
}

alone : (n k : ℕ) → Contains (n ∷ []) k → n ≡ k
alone n k c = elim (Contains-push_cases [] n k c) [ inl q ↦ absurd (omega (arith, q.1)) | inr e ↦ e ]

last_or_before : (areas : List AreaValue) (area : AreaValue) (place : ℕ) → place < length (areas ++ area ∷ []) → (place < length areas) ⊎ (length areas ≡ place)
last_or_before areas area place lt =
    elim (cases_lt place (length areas)) [ inl h ↦ inl h | inr h ↦ inr (omega (arith, lt, h, length-append areas (area ∷ []))) ]

same_or_other : (j k : ℕ) → (j ≡ k) ⊎ (j ≢ k)
same_or_other j k =
    elim (cases_lt j k) [
      | inl lt ↦ inr (λ e. omega (arith, lt, e))
      | inr le ↦ elim (cases_lt k j) [ inl lt ↦ inr (λ e. omega (arith, lt, e)) | inr other ↦ inl (omega (arith, le, other)) ]
    ]

own_shared : (areas : List AreaValue) (area : AreaValue) (extents : List ExtentValue) (extent : ExtentValue) → area.rings ≡ extent.rings → extent.places ≡ length areas ∷ []
    → AreShared areas extents → AreShared (areas ++ area ∷ []) (extents ++ extent ∷ [])
own_shared areas area extents extent same places h = record {
  each = λ e place among there.
      elim (Contains-push_cases extents extent e among) [
        | inl q ↦ covers_kept areas area e place (h.each e place q there)
        | inr is ↦
            covers_new areas area e place
            (alone (length areas) place (subst (λ (l : List ℕ). Contains l place) (ap (λ (x : ExtentValue). x.places) (sym is) ∙ places) there))
            (same ∙ ap rings is)
      ];
  all = λ place lt.
      elim (last_or_before areas area place lt) [
        | inl before ↦
            let is = h.all place before in
            record { extent = is.extent; among = Contains-append_left extents (extent ∷ []) is.extent is.among; there = is.there }
        | inr last ↦ record {
          extent = extent;
          among = Contains-push extents extent;
          there = subst (λ (l : List ℕ). Contains l place) (sym places) (0, omega arith, last);
        }
      ];
}

module _ (areas : List AreaValue) (area : AreaValue) (extents : List ExtentValue) (k : ℕ) (old new : ExtentValue) (lt : k < length extents)
    (is_old : get_or extents k old ≡ old) (same_new : new.rings ≡ old.rings) (places : new.places ≡ old.places ++ length areas ∷ [])
    (same : area.rings ≡ old.rings) (h : AreShared areas extents) where
  in_new : (e : ExtentValue) → new ≡ e → (place : ℕ) → Contains e.places place → Covers (areas ++ area ∷ []) e place
  in_new e is place there =
      let rings_are : old.rings ≡ e.rings = sym same_new ∙ ap rings is in
      elim (Contains-append_cases old.places (length areas ∷ []) place
      (subst (λ (l : List ℕ). Contains l place) (ap (λ (x : ExtentValue). x.places) (sym is) ∙ places) there)) [
        | inl q ↦
            let c = covers_kept areas area old place (h.each old place (k, lt, is_old) q) in
            record { area = c.area; there = c.there; same = c.same ∙ rings_are }
        | inr q ↦ covers_new areas area e place (alone (length areas) place q) (same ∙ rings_are)
      ]

  new_there : Contains (set extents k new) new
  new_there = (k, omega (arith, lt, length-set extents k new), get_or-set_same extents k new new lt)

  twin_each : (e : ExtentValue) (place : ℕ) → Contains (set extents k new) e → Contains e.places place → Covers (areas ++ area ∷ []) e place
  twin_each e place (j, within, at) there =
      elim (same_or_other j k) [
        | inl is ↦
            in_new e
            (sym (get_or-set_same extents k new e lt) ∙ ap (λ (n : ℕ). get_or (set extents k new) n e) (sym is) ∙ at)
            place there
        | inr other ↦
            covers_kept areas area e place
            (h.each e place (j, omega (arith, within, length-set extents k new), sym (get_or-set_other extents k j new e other) ∙ at) there)
      ]

  twin_all : (place : ℕ) → place < length areas → (e : ExtentValue) → Contains extents e → Contains e.places place → IsCovered (set extents k new) place
  twin_all place before e (j, within, at) there =
      elim (same_or_other j k) [
        | inl is ↦
            let e_old : e ≡ old =
            sym at ∙ ap (λ (n : ℕ). get_or extents n e) is ∙ get_or_default extents k e old lt ∙ is_old in
            record {
              extent = new;
              among = new_there;
              there =
                  subst (λ (l : List ℕ). Contains l place) (sym places)
                  (Contains-append_left old.places (length areas ∷ []) place (subst (λ (x : ExtentValue). Contains x.places place) e_old there));
            }
        | inr other ↦ record {
          extent = e;
          among = (j, omega (arith, within, length-set extents k new), get_or-set_other extents k j new e other ∙ at);
          there = there;
        }
      ]

  twin_shared : AreShared (areas ++ area ∷ []) (set extents k new)
  twin_shared = record {
    each = twin_each;
    all = λ place within.
        elim (last_or_before areas area place within) [
          | inl before ↦ let is = h.all place before in twin_all place before is.extent is.among is.there
          | inr last ↦ record {
            extent = new;
            among = new_there;
            there = subst (λ (l : List ℕ). Contains l place) (sym places) (Contains-append_right old.places (length areas ∷ []) place (0, omega arith, last));
          }
        ];
  }

-- ---- both

values_length : (extents : List ExtentValue) (areas : List DepthArea) → length (values_of extents areas) ≡ length areas
values_length extents areas = length-map areas (value_of extents)

within_push : (extents longer : List ExtentValue) (areas : List DepthArea) (area : DepthArea) → length extents ≤ length longer → area.extent < length longer → AreWithin extents areas
    → AreWithin longer (areas ++ area ∷ [])
within_push extents longer areas area more here within =
    All-push (λ (a : DepthArea). a.extent < length longer) areas area (λ n d lt. omega (arith, within n d lt, more)) here

shared_as : (areas others : List AreaValue) (extents longer : List ExtentValue) → areas ≡ others → extents ≡ longer → AreShared areas extents → AreShared others longer
shared_as areas others extents longer e f h =
    subst (λ (l : List ExtentValue). AreShared others l) f (subst (λ (l : List AreaValue). AreShared l extents) e h)

module _ (extents longer : List ExtentValue) (extent : ExtentValue) (areas more : List DepthArea) (area : DepthArea) (grown : longer ≡ extents ++ extent ∷ [])
    (pushed : more ≡ areas ++ area ∷ []) (last : area.extent ≡ length extents) (h : AreCovering extents areas) where
  own_list : values_of longer more ≡ values_of extents areas ++ record { name = area.name; d1 = area.d1; rings = extent.rings } ∷ []
  own_list = (λ i. values_of (grown i) (pushed i)) ∙ own_values extents extent areas area last h.within

  pub own_told : (list : List AreaValue) (d1 : ℤ) (those : List (List Pt)) → values_of extents areas ≡ list → area.d1 ≡ d1 → extent.rings ≡ those
      → values_of longer more ≡ list ++ record { name = area.name; d1 = d1; rings = those } ∷ []
  own_told list d1 those view deep of =
      let with : List AreaValue → ℤ → List (List Pt) → List AreaValue = λ all depth own. all ++ record { name = area.name; d1 = depth; rings = own } ∷ [] in
      own_list ∙ (λ i. with (view i) (deep i) (of i))

  pub own_covering : extent.places ≡ length areas ∷ [] → AreCovering longer more
  own_covering places =
      let more_extents : length longer ≡ length extents + 1 = ap length grown ∙ length-append extents (extent ∷ []) in
      record {
        within =
            subst (AreWithin longer) (sym pushed) (within_push extents longer areas area (omega (arith, more_extents)) (omega (arith, last, more_extents)) h.within);
        shared =
            shared_as _ _ _ _ (sym own_list) (sym grown)
            (own_shared (values_of extents areas) (record { name = area.name; d1 = area.d1; rings = extent.rings }) extents extent refl
            (places ∙ ap (λ (n : ℕ). n ∷ []) (sym (values_length extents areas))) h.shared);
      }

module _ (extents longer : List ExtentValue) (old new : ExtentValue) (areas more : List DepthArea) (area : DepthArea) (grown : longer ≡ set extents area.extent new)
    (pushed : more ≡ areas ++ area ∷ []) (lt : area.extent < length extents) (is_old : old ≡ get_or extents area.extent old) (same_new : new.rings ≡ old.rings) where
  twin_list : values_of longer more ≡ values_of extents areas ++ value_of extents area ∷ []
  twin_list = (λ i. values_of (grown i) (pushed i)) ∙ twin_values extents area.extent old new areas area (same_new ∙ ap rings is_old)

  pub twin_told : (list : List AreaValue) (place : ℕ) (other : DepthArea) (d1 : ℤ) → values_of extents areas ≡ list → place < length areas → other ≡ get_or areas place other
      → area.extent ≡ other.extent → area.d1 ≡ d1
      → IfSome (slice_get list place) (λ twin. values_of longer more ≡ list ++ record { name = area.name; d1 = d1; rings = twin.rings } ∷ [])
  twin_told list place other d1 view there is same deep =
      let found : slice_get list place ≡ Some (value_of extents other) =
      ap (λ (l : List AreaValue). slice_get l place) (sym view)
      ∙ slice_get-map (value_of extents) areas place
      ∙ ap (option_map (value_of extents)) (slice_get_read areas (length areas) place other refl there is) in
      let with : List AreaValue → ℤ → ℕ → List AreaValue = λ all depth k. all ++ record { name = area.name; d1 = depth; rings = rings_at extents k } ∷ [] in
      subst (λ (o : Option AreaValue). IfSome o (λ twin. values_of longer more ≡ list ++ record { name = area.name; d1 = d1; rings = twin.rings } ∷ [])) (sym found)
      (twin_list ∙ (λ i. with (view i) (deep i) (same i)))

  pub twin_covering : new.places ≡ old.places ++ length areas ∷ [] → AreCovering extents areas → AreCovering longer more
  twin_covering places h =
      let as_many : length longer ≡ length extents = ap length grown ∙ length-set extents area.extent new in
      let value_rings : rings_at extents area.extent ≡ old.rings = get_or-map rings extents area.extent old [] lt ∙ ap rings (sym is_old) in
      record {
        within =
            subst (AreWithin longer) (sym pushed) (within_push extents longer areas area (omega (arith, as_many)) (omega (arith, lt, as_many)) h.within);
        shared =
            shared_as _ _ _ _ (sym twin_list) (sym grown)
            (twin_shared (values_of extents areas) (value_of extents area) extents area.extent old new lt (sym is_old) same_new
            (places ∙ ap (λ (n : ℕ). old.places ++ n ∷ []) (sym (values_length extents areas))) value_rings h.shared);
      }

-- what an area at a place covers is there
pub place_within : (extents : List ExtentValue) (areas : List DepthArea) (list : List AreaValue) (place : ℕ) → values_of extents areas ≡ list → place < length list → place < length areas
place_within extents areas list place view lt = omega (arith, lt, ap length view, values_length extents areas)

pub extent_within : (extents : List ExtentValue) (areas : List DepthArea) (place : ℕ) (other : DepthArea) → AreWithin extents areas → place < length areas → other ≡ get_or areas place other
    → other.extent < length extents
extent_within extents areas place other within lt is = subst (λ (a : DepthArea). a.extent < length extents) (sym is) (within place other lt)

-- The points of a shape are those of the records that its feature points to.
use Rattle.std.proofs.Common.{◌≡◌, ◌⊎◌, inl, inr, ⊎_elim, Bool, true, false, List, [], ◌∷◌, ◌++◌, map, reverse, Option, Some, None, option_map, All, refl, sym, ap, ◌∙◌, subst}
use Rattle.std.specs.Prelude.{◌==◌, if◌then◌else◌}
use Rattle.std.specs.List.{AllByRecursion, flat_map}
use Rattle.std.specs.FinMap as finite
use Rattle.std.proofs.lemmas.Bool.{eqb-true}
use Rattle.std.proofs.lemmas.Option.{none-some, same_Some}
use Rattle.std.proofs.lemmas.List.{map-append, reverse-append}
use Rattle.std.proofs.lemmas.List.Elements.{All-head, All-tail}
use Rattle.std.proofs.lemmas.Grind.{flat_map-append}
use Rattle.chart_model.specs.declared.name.Name.{Name}
use Rattle.chart_model.specs.declared.record.Coord.{Coord}
use Rattle.chart_model.specs.declared.record.Pointer.{Pointer}
use Rattle.chart_model.specs.declared.cell.Vector.{Vector}
use Rattle.chart_model.specs.Cell.{CellValue}
use Rattle.plane_geometry.specs.declared.point.Pt.{Pt}
use Rattle.area_rings.specs.Choice.{◌>>=◌, each}
use Rattle.area_rings.specs.Edge.{EdgeValue, is_node, node_of, edge_of, edge_along, ends_of, line_of, place_of, point_of, way_along}
use Rattle.area_rings.specs.Rings.{but_last, ring_points, IsLinked, IsRing, HasRings}
use Rattle.area_rings.specs.Shape.{lines_of, points_of}
use Rattle.area_rings.proofs.Lines.{but_last_is}
use Rattle.spatial_grid.specs.Boxes.{points_along}
use Rattle.common_lemmas.proofs.Members.{Has, has_left, has_right, has_either}
use Rattle.spatial_grid.proofs.Members.{SameMembers, same_itself, same_then, same_append, same_reversed, same_of_each}
use Rattle.spatial_grid.proofs.RecordBoxes.{points_at, points_to}

-- what there is of each item
each_step : {B : Type 0} (o : Option B) (os : Option (List B)) (ys : List B) → (o >>= (λ y. os >>= (λ more. Some (y ∷ more)))) ≡ Some ys → (y : B) × (more : List B) × (o ≡ Some y) × (os ≡ Some more) × (ys ≡ y ∷ more)
each_step None os ys e = absurd (none-some ys e)
each_step (Some y) None ys e = absurd (none-some ys e)
each_step (Some y) (Some more) ys e = (y, more, refl, refl, sym (same_Some _ _ e))

each_told : {A B : Type 0} (f : A → Option B) (xs : List A) (ys : List B) → each f xs ≡ Some ys → map f xs ≡ map Some ys
each_told f [] ys e =
    let none : [] ≡ ys = same_Some _ _ e in
    ap (map Some) none
each_told {A} {B} f (x ∷ xs) ys e =
    let s = each_step (f x) (each f xs) ys e in
    let rest = each_told f xs s.1 s.3 in
    (ap (λ (o : Option B). o ∷ map f xs) s.2 ∙ ap (λ (l : List (Option B)). Some s.0 ∷ l) rest) ∙ ap (map Some) (sym s.4)

map-flat_map : {A B C : Type 0} (f : B → C) (g : A → List B) (xs : List A) → map f (flat_map g xs) ≡ flat_map (λ x. map f (g x)) xs
map-flat_map f g [] = refl
map-flat_map {A} {B} {C} f g (x ∷ xs) =
    map-append f (g x) (flat_map g xs) ∙ ap (λ (l : List C). map f (g x) ++ l) (map-flat_map f g xs)

-- ---- points

module _ (cell : CellValue) where
  node_points : (name : Name) (node : Vector) → node_of cell name ≡ Some node → points_at cell name ≡ map point_of node.coords
  node_points name node e = go (is_node name) refl e
    where
      go : (b : Bool) → is_node name ≡ b → (if b then finite.get cell.vectors name else None) ≡ Some node → points_at cell name ≡ map point_of node.coords
      go true is f = rw (f, is) refl
      go false is f = absurd (none-some node f)

  pub point_points : (pointers : List Pointer) (coords : List Coord) → points_of cell pointers ≡ Some coords → SameMembers (map point_of coords) (points_to cell pointers)
  point_points pointers coords e = go (each (λ (p : Pointer). node_of cell p.target) pointers) refl e
    where
      go : (o : Option (List Vector)) → each (λ (p : Pointer). node_of cell p.target) pointers ≡ o → option_map (flat_map (λ (node : Vector). node.coords)) o ≡ Some coords → SameMembers (map point_of coords) (points_to cell pointers)
      go None f g = absurd (none-some coords g)
      go (Some nodes) f g =
          same_then (map point_of coords) (flat_map (λ (node : Vector). map point_of node.coords) nodes) (points_to cell pointers)
          (same_itself _ _ (ap (map point_of) (sym (same_Some _ _ g)) ∙ map-flat_map point_of (λ (node : Vector). node.coords) nodes))
          (same_of_each (λ (p : Pointer). node_of cell p.target) (λ (node : Vector). map point_of node.coords) (λ (p : Pointer). points_at cell p.target)
          (λ p node is. same_itself _ _ (sym (node_points p.target node is))) pointers nodes (each_told _ pointers nodes f))

  -- ---- edges

  no_node : (name : Name) → (name.rcnm == 130) ≡ true → is_node name ≡ false
  no_node name e =
      let kind : name.rcnm ≡ 130 = eqb-true name.rcnm 130 e in
      rw kind refl

  edge_points : (name : Name) (edge : EdgeValue) → edge_of cell name ≡ Some edge → points_at cell name ≡ edge.points
  unfolding edge_of
  edge_points name edge e = by_kind (name.rcnm == 130) refl
    where
      line_is : points_along (line_of cell name false) ≡ edge.points
      line_is = ap (λ (o : Option EdgeValue). points_along (option_map (λ (edge : EdgeValue). (way_along false edge).points) o)) e

      by_record : (name.rcnm == 130) ≡ true → (o : Option Vector) → finite.get cell.vectors name ≡ o → points_at cell name ≡ edge.points
      by_record kind None there = absurd (none-some edge (sym (rw (kind, there) refl) ∙ e))
      by_record kind (Some vector) there = rw (there, no_node name kind) line_is

      by_kind : (b : Bool) → (name.rcnm == 130) ≡ b → points_at cell name ≡ edge.points
      by_kind true kind = by_record kind (finite.get cell.vectors name) refl
      by_kind false kind = absurd (none-some edge (sym (rw kind refl) ∙ e))

  way_points : (reversed : Bool) (edge : EdgeValue) → SameMembers (way_along reversed edge).points edge.points
  way_points true edge = same_reversed edge.points
  way_points false edge = same_itself _ _ refl

  pub line_points : (pointers : List Pointer) (lines : List (List Pt)) → lines_of cell pointers ≡ Some lines → SameMembers (flat_map (λ (line : List Pt). line) lines) (points_to cell pointers)
  line_points pointers lines e =
      same_of_each (λ (p : Pointer). line_of cell p.target (p.ornt == 2)) (λ (line : List Pt). line) (λ (p : Pointer). points_at cell p.target) of_line pointers lines (each_told _ pointers lines e)
    where
      of_line : (p : Pointer) (line : List Pt) → line_of cell p.target (p.ornt == 2) ≡ Some line → SameMembers line (points_at cell p.target)
      of_line p line f = go (edge_of cell p.target) refl f
        where
          go : (o : Option EdgeValue) → edge_of cell p.target ≡ o → option_map (λ (edge : EdgeValue). (way_along (p.ornt == 2) edge).points) o ≡ Some line → SameMembers line (points_at cell p.target)
          go None g h = absurd (none-some line h)
          go (Some edge) g h =
              same_then line (way_along (p.ornt == 2) edge).points (points_at cell p.target) (same_itself _ _ (sym (same_Some _ _ h)))
              (same_then _ edge.points _ (way_points (p.ornt == 2) edge) (same_itself _ _ (sym (edge_points p.target edge g))))

  -- ---- rings

  -- an edge from where a node is to where a node is
  record HasEnds (edge : EdgeValue) : Type 0 where
    start : Pt
    inner : List Pt
    end : Pt
    points : edge.points ≡ (start ∷ inner) ++ end ∷ []
    begins : place_of cell edge.from ≡ Some start
    ends : place_of cell edge.to ≡ Some end

  abbrev made : Vector → Name × Name → Pt → Pt → EdgeValue
  made vector ends begin end = record { from = ends.0; to = ends.1; points = begin ∷ map point_of vector.coords ++ end ∷ [] }

  edge_ends : (name : Name) (edge : EdgeValue) → edge_of cell name ≡ Some edge → HasEnds edge
  unfolding edge_of
  edge_ends name edge e = by_kind (name.rcnm == 130) e
    where
      by_end : (vector : Vector) (ends : Name × Name) (begin : Pt) → place_of cell ends.0 ≡ Some begin → (o : Option Pt) → place_of cell ends.1 ≡ o → (o >>= (λ (end : Pt). Some (made vector ends begin end))) ≡ Some edge → HasEnds edge
      by_end vector ends begin f None g h = absurd (none-some edge h)
      by_end vector ends begin f (Some end) g h =
          subst HasEnds (same_Some _ _ h) (record { start = begin; inner = map point_of vector.coords; end = end; points = refl; begins = f; ends = g })

      by_begin : (vector : Vector) (ends : Name × Name) (o : Option Pt) → place_of cell ends.0 ≡ o → (o >>= (λ (begin : Pt). place_of cell ends.1 >>= (λ (end : Pt). Some (made vector ends begin end)))) ≡ Some edge → HasEnds edge
      by_begin vector ends None f h = absurd (none-some edge h)
      by_begin vector ends (Some begin) f h = by_end vector ends begin f (place_of cell ends.1) refl h

      by_ends : (vector : Vector) (o : Option (Name × Name)) → (o >>= (λ (ends : Name × Name). place_of cell ends.0 >>= (λ (begin : Pt). place_of cell ends.1 >>= (λ (end : Pt). Some (made vector ends begin end))))) ≡ Some edge → HasEnds edge
      by_ends vector None h = absurd (none-some edge h)
      by_ends vector (Some ends) h = by_begin vector ends (place_of cell ends.0) refl h

      by_record : (o : Option Vector) → (o >>= (λ (vector : Vector). ends_of vector.pointers >>= (λ (ends : Name × Name). place_of cell ends.0 >>= (λ (begin : Pt). place_of cell ends.1 >>= (λ (end : Pt). Some (made vector ends begin end)))))) ≡ Some edge → HasEnds edge
      by_record None h = absurd (none-some edge h)
      by_record (Some vector) h = by_ends vector (ends_of vector.pointers) h

      by_kind : (b : Bool) → (if b then (finite.get cell.vectors name >>= (λ (vector : Vector). ends_of vector.pointers >>= (λ (ends : Name × Name). place_of cell ends.0 >>= (λ (begin : Pt). place_of cell ends.1 >>= (λ (end : Pt). Some (made vector ends begin end)))))) else None) ≡ Some edge → HasEnds edge
      by_kind true h = by_record (finite.get cell.vectors name) h
      by_kind false h = absurd (none-some edge h)

  way_ends : (reversed : Bool) (edge : EdgeValue) → HasEnds edge → HasEnds (way_along reversed edge)
  way_ends false edge h = h
  way_ends true edge h = record {
    start = h.end;
    inner = reverse h.inner;
    end = h.start;
    points =
        ap reverse h.points
        ∙ reverse-append (h.start ∷ h.inner) (h.end ∷ [])
        ∙ ap (λ (l : List Pt). (h.end ∷ []) ++ l) (reverse-append (h.start ∷ []) h.inner);
    begins = h.ends;
    ends = h.begins;
  }

  -- what an edge that a pointer gives has
  record IsAlong (pointer : Pointer) (edge : EdgeValue) : Type 0 where
    ends : HasEnds edge
    same : SameMembers edge.points (points_at cell pointer.target)

  along : (pointer : Pointer) (edge : EdgeValue) → edge_along cell pointer ≡ Some edge → IsAlong pointer edge
  along pointer edge e = go (edge_of cell pointer.target) refl e
    where
      go : (o : Option EdgeValue) → edge_of cell pointer.target ≡ o → option_map (way_along (pointer.ornt == 2)) o ≡ Some edge → IsAlong pointer edge
      go None f g = absurd (none-some edge g)
      go (Some recorded) f g =
          subst (IsAlong pointer) (same_Some _ _ g) (record {
            ends = way_ends (pointer.ornt == 2) recorded (edge_ends pointer.target recorded f);
            same =
                same_then _ recorded.points _ (way_points (pointer.ornt == 2) recorded)
                (same_itself _ _ (sym (edge_points pointer.target recorded f)));
          })

  all_ends : (pointers : List Pointer) (edges : List EdgeValue) → map (edge_along cell) pointers ≡ map Some edges → AllByRecursion HasEnds edges
  all_ends [] [] e = tt
  all_ends [] (y ∷ ys) e = absurd (cc)
  all_ends (p ∷ ps) [] e = absurd (cc)
  all_ends (p ∷ ps) (y ∷ ys) e = ((along p y (cc)).ends, all_ends ps ys (cc))

  front_ends : (xs ys : List EdgeValue) → AllByRecursion HasEnds (xs ++ ys) → AllByRecursion HasEnds xs
  front_ends [] ys h = tt
  front_ends (x ∷ xs) ys h = (h.0, front_ends xs ys h.1)

  rest_ends : (xs ys : List EdgeValue) → AllByRecursion HasEnds (xs ++ ys) → AllByRecursion HasEnds ys
  rest_ends [] ys h = h
  rest_ends (x ∷ xs) ys h = rest_ends xs ys h.1

  abbrev all_points : List EdgeValue → List Pt
  all_points edges = flat_map (λ (edge : EdgeValue). edge.points) edges

  -- the points without the last are those without the end
  but_end : (edge : EdgeValue) (h : HasEnds edge) → but_last edge.points ≡ h.start ∷ h.inner
  but_end edge h = ap but_last h.points ∙ but_last_is (h.start ∷ h.inner) h.end

  fewer : (edges : List EdgeValue) → AllByRecursion HasEnds edges → (x : Pt) → Has x (ring_points edges) → Has x (all_points edges)
  fewer [] all x h = h
  fewer (edge ∷ more) all x h =
      ⊎_elim
      (λ here. has_left edge.points (all_points more) x (subst (Has x) (sym all.0.points) (has_left (all.0.start ∷ all.0.inner) (all.0.end ∷ []) x (subst (Has x) (but_end edge all.0) here))))
      (λ later. has_right edge.points (all_points more) x (fewer more all.1 x later))
      (has_either (but_last edge.points) (ring_points more) x h)

  -- the last of the edges ends at home
  abbrev EndsAt : Name → List EdgeValue → Type 0
  EndsAt home [] = ⊥
  EndsAt home (edge ∷ []) = edge.to ≡ home
  EndsAt home (edge ∷ next ∷ more) = EndsAt home (next ∷ more)

  ends_at : (home : Name) (before : List EdgeValue) (last : EdgeValue) → last.to ≡ home → EndsAt home (before ++ last ∷ [])
  ends_at home [] last e = e
  ends_at home (a ∷ []) last e = e
  ends_at home (a ∷ b ∷ before) last e = ends_at home (b ∷ before) last e

  -- a point of an edge is not its end, or it is
  point_of_edge : (edge : EdgeValue) (h : HasEnds edge) (x : Pt) → Has x edge.points → Has x (but_last edge.points) ⊎ (h.end ≡ x)
  point_of_edge edge h x there = go (has_either (h.start ∷ h.inner) (h.end ∷ []) x (subst (Has x) h.points there))
    where
      go : Has x (h.start ∷ h.inner) ⊎ Has x (h.end ∷ []) → Has x (but_last edge.points) ⊎ (h.end ≡ x)
      go (inl here) = inl (subst (Has x) (sym (but_end edge h)) here)
      go (inr (inl e)) = inr e
      go (inr (inr none)) = absurd none

  first_of : (edge : EdgeValue) (h : HasEnds edge) → Has h.start (but_last edge.points)
  first_of edge h = subst (Has h.start) (sym (but_end edge h)) (inl refl)

  same_place : (one other : Name) (p q : Pt) → one ≡ other → place_of cell one ≡ Some p → place_of cell other ≡ Some q → p ≡ q
  same_place one other p q e f g = same_Some p q (sym f ∙ ap (place_of cell) e ∙ g)

  -- a point of linked edges is not the end of its edge, or it is where they end
  not_lost : (home : Name) (place : Pt) → place_of cell home ≡ Some place → (edges : List EdgeValue) → AllByRecursion HasEnds edges → IsLinked edges → EndsAt home edges → (x : Pt) → Has x (all_points edges) → Has x (ring_points edges) ⊎ (place ≡ x)
  not_lost home place at [] all linked ends x h = absurd ends
  not_lost home place at (edge ∷ []) all linked ends x h = go (has_either edge.points [] x h)
    where
      go : Has x edge.points ⊎ Has x [] → Has x (ring_points (edge ∷ [])) ⊎ (place ≡ x)
      go (inl here) =
          ⊎_elim (λ kept. inl (has_left (but_last edge.points) [] x kept))
          (λ e. inr (same_place home edge.to place all.0.end (sym ends) at all.0.ends ∙ e))
          (point_of_edge edge all.0 x here)
      go (inr none) = absurd none
  not_lost home place at (edge ∷ next ∷ more) all linked ends x h =
      go (not_lost home place at (next ∷ more) all.1 linked.1 ends x) (has_either edge.points (all_points (next ∷ more)) x h)
    where
      later : Has x (ring_points (next ∷ more)) → Has x (ring_points (edge ∷ next ∷ more)) ⊎ (place ≡ x)
      later kept = inl (has_right (but_last edge.points) (ring_points (next ∷ more)) x kept)

      go : (Has x (all_points (next ∷ more)) → Has x (ring_points (next ∷ more)) ⊎ (place ≡ x)) → Has x edge.points ⊎ Has x (all_points (next ∷ more)) → Has x (ring_points (edge ∷ next ∷ more)) ⊎ (place ≡ x)
      go others (inl here) =
          ⊎_elim (λ kept. inl (has_left (but_last edge.points) (ring_points (next ∷ more)) x kept))
          (λ e.
          let same : all.1.0.start ≡ x = same_place next.from edge.to all.1.0.start all.0.end linked.0 all.1.0.begins all.0.ends ∙ e in
          later (has_left (but_last next.points) (ring_points more) x (subst (λ (p : Pt). Has p (but_last next.points)) same (first_of next all.1.0))))
          (point_of_edge edge all.0 x here)
      go others (inr there) = ⊎_elim later (λ e. inr e) (others there)

  -- the points round a ring are all points of its edges
  ring_same : (edges : List EdgeValue) → AllByRecursion HasEnds edges → IsRing edges → SameMembers (ring_points edges) (all_points edges)
  ring_same [] all ring = same_itself [] [] refl
  ring_same (edge ∷ more) all ring = record {
    there = fewer (edge ∷ more) all;
    back = λ x h. ⊎_elim (λ kept. kept) (λ e. subst (λ (p : Pt). Has p (ring_points (edge ∷ more))) e home)
        (not_lost edge.from all.0.start all.0.begins (edge ∷ more) all ring.linked returned x h);
  }
    where
      home : Has all.0.start (ring_points (edge ∷ more))
      home = has_left (but_last edge.points) (ring_points more) all.0.start (first_of edge all.0)

      returned : EndsAt edge.from (edge ∷ more)
      returned =
          let r = ring.returns in
          let first = r.first in
          let others = r.others in
          let begins : edge ∷ more ≡ first ∷ others = r.begins in
          let same : edge ≡ first = cc in
          subst (EndsAt edge.from) (sym r.ends) (ends_at edge.from r.before r.last (r.home ∙ ap (λ (e : EdgeValue). e.from) (sym same)))

  rings_same : (chains : List (List EdgeValue)) → AllByRecursion HasEnds (flat_map (λ (chain : List EdgeValue). chain) chains) → All IsRing chains → SameMembers (flat_map (λ (ring : List Pt). ring) (map ring_points chains)) (all_points (flat_map (λ (chain : List EdgeValue). chain) chains))
  rings_same [] all closed = same_itself [] [] refl
  rings_same (chain ∷ chains) all closed =
      let rest = flat_map (λ (chain : List EdgeValue). chain) chains in
      same_then _ (all_points chain ++ all_points rest) _
      (same_append (ring_points chain) _ (all_points chain) (all_points rest)
      (ring_same chain (front_ends chain rest all) (All-head IsRing chain chains closed))
      (rings_same chains (rest_ends chain rest all) (All-tail IsRing chain chains closed)))
      (same_itself _ _ (sym (flat_map-append (λ (edge : EdgeValue). edge.points) chain rest)))

  pub area_points : (pointers : List Pointer) (rings : List (List Pt)) → HasRings cell pointers rings → SameMembers (flat_map (λ (ring : List Pt). ring) rings) (points_to cell pointers)
  area_points pointers rings h =
      let edges = flat_map (λ (chain : List EdgeValue). chain) h.chains in
      same_then _ (flat_map (λ (ring : List Pt). ring) (map ring_points h.chains)) _
      (same_itself _ _ (ap (flat_map (λ (ring : List Pt). ring)) h.points))
      (same_then _ (all_points edges) _ (rings_same h.chains (all_ends pointers edges h.traced) h.closed)
      (same_of_each (edge_along cell) (λ (edge : EdgeValue). edge.points) (λ (p : Pointer). points_at cell p.target) (λ p edge is. (along p edge is).same) pointers edges h.traced))

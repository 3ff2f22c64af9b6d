-- Edges and shapes stay where the vector records keep their pointers and their places.
use Rattle.std.proofs.Common.{◌≡◌, ◌≢◌, Bool, true, false, List, [], ◌∷◌, ◌++◌, map, get_or, slice_get, Option, Some, None, is_some, IsSome, option_map, eqb, if◌then◌else◌, refl, sym, ap, subst, ◌∙◌, arith}
use Rattle.std.specs.FinMap as finite
use Rattle.std.proofs.lemmas.Bool.{false≢true, eqb-true, eqb-false}
use Rattle.std.proofs.lemmas.Option.{none-some, same_Some}
use Rattle.chart_model.specs.declared.name.Name.{Name}
use Rattle.chart_model.specs.declared.record.Coord.{Coord}
use Rattle.chart_model.specs.declared.record.Pointer.{Pointer}
use Rattle.chart_model.specs.declared.cell.Vector.{Vector}
use Rattle.chart_model.specs.declared.cell.Feature.{Feature}
use Rattle.chart_model.specs.Cell.{CellValue}
use Rattle.plane_geometry.specs.declared.point.Pt.{Pt}
use Rattle.area_rings.specs.declared.trace.OpenRing.{OpenRing}
use Rattle.area_rings.specs.Choice.{◌>>=◌}
use Rattle.area_rings.specs.Edge.{is_node, node_of, point_of, place_of, ends_of, EdgeValue, edge_of, way_along, line_of, edge_along}
use Rattle.area_rings.specs.Rings.{ring_after, before_rings, rings_of}
use Rattle.area_rings.specs.Shape.{shape_of}
use Rattle.area_rings.specs.KeptEdges.{StandsFor, KeepsVectors}
use Rattle.area_rings.proofs.Edges.{no_edge_name, no_edge, no_ends, no_begin, no_end, whole_edge}
use Rattle.area_rings.proofs.Traces.{chains_at, no_line, broken, goes_on, at_end, is_some-option_map, has_rings, no_pointers}
use Rattle.area_rings.proofs.Shapes.{IsNoPlace, point_shape, line_shape, area_shape, bare_shape}

value : {A : Type 0} (o : Option A) → IsSome o → (x : A) × (o ≡ Some x)
value None h = absurd (false≢true h)
value (Some x) h = (x, refl)

-- ---- records

kept_vector : (before after : CellValue) (name : Name) (vector : Vector) → KeepsVectors before after → finite.get before.vectors name ≡ Some vector → (kept : Vector) × (finite.get after.vectors name ≡ Some kept) × StandsFor vector kept
kept_vector before after name vector keeps e = rw e at (keeps name)

kept_node : (before after : CellValue) (name : Name) (node : Vector) → KeepsVectors before after → node_of before name ≡ Some node → (kept : Vector) × (node_of after name ≡ Some kept) × StandsFor node kept
kept_node before after name node keeps e = go (is_node name) e
  where
    go : (b : Bool) → (if b then finite.get before.vectors name else None) ≡ Some node → (kept : Vector) × ((if b then finite.get after.vectors name else None) ≡ Some kept) × StandsFor node kept
    go true e = kept_vector before after name node keeps e
    go false e = absurd (none-some node e)

-- ---- places

first_kept : (before after : List Coord) → (before ≢ [] → after ≢ []) → IsSome (slice_get before 0) → IsSome (slice_get after 0)
first_kept [] after placed h = absurd (false≢true h)
first_kept (x ∷ before) [] placed h = absurd (placed (λ e. cc) refl)
first_kept (x ∷ before) (y ∷ after) placed h = refl

is_some_then : {A B : Type 0} (f : A → B) (o : Option A) → is_some (o >>= (λ x. Some (f x))) ≡ is_some o
is_some_then f None = refl
is_some_then f (Some x) = refl

place_kept : (before after : CellValue) (name : Name) → KeepsVectors before after → IsSome (place_of before name) → IsSome (place_of after name)
unfolding place_of
place_kept before after name keeps h = go (node_of before name) refl h
  where
    go : (o : Option Vector) → node_of before name ≡ o → IsSome (o >>= (λ node. slice_get node.coords 0 >>= (λ coord. Some (point_of coord)))) → IsSome (node_of after name >>= (λ node. slice_get node.coords 0 >>= (λ coord. Some (point_of coord))))
    go None e h = absurd (false≢true h)
    go (Some node) e h =
        let k = kept_node before after name node keeps e in
        rw k.1 (is_some_then point_of (slice_get k.0.coords 0) ∙ first_kept node.coords k.0.coords k.2.placed (sym (is_some_then point_of (slice_get node.coords 0)) ∙ h))

-- ---- edges

-- an edge from the same node to the same node
pub record IsSameWay (before after : EdgeValue) : Type 0 where
  pub from : after.from ≡ before.from
  pub to : after.to ≡ before.to

-- there is such an edge
pub record Found (found : Option EdgeValue) (before : EdgeValue) : Type 0 where
  pub kept : EdgeValue
  pub is : found ≡ Some kept
  pub same : IsSameWay before kept

kept_edge : (before after : CellValue) (name : Name) (edge : EdgeValue) → KeepsVectors before after → edge_of before name ≡ Some edge → Found (edge_of after name) edge
kept_edge before after name edge keeps e = of_name (eqb name.rcnm 130) refl
  where
    nothing : edge_of before name ≡ None → Found (edge_of after name) edge
    nothing none = absurd (none-some edge (sym none ∙ e))

    of_end : name.rcnm ≡ 130 → (vector : Vector) → finite.get before.vectors name ≡ Some vector → (from to : Name) → ends_of vector.pointers ≡ Some (from, to) → (begin : Pt) → place_of before from ≡ Some begin → (o : Option Pt) → place_of before to ≡ o → Found (edge_of after name) edge
    of_end h vector f from to g begin i None j = nothing (no_end before name vector from to begin h f g i j)
    of_end h vector f from to g begin i (Some end) j =
        let same = same_Some _ _ (sym e ∙ whole_edge before name vector from to begin end h f g i j) in
        let k = kept_vector before after name vector keeps f in
        let first = value (place_of after from) (place_kept before after from keeps (ap is_some i)) in
        let last = value (place_of after to) (place_kept before after to keeps (ap is_some j)) in
        record {
          kept = record { from = from; to = to; points = first.0 ∷ map point_of k.0.coords ++ last.0 ∷ [] };
          is = whole_edge after name k.0 from to first.0 last.0 h k.1 (ap ends_of k.2.pointers ∙ g) first.1 last.1;
          same = record { from = sym (ap (λ (edge : EdgeValue). edge.from) same); to = sym (ap (λ (edge : EdgeValue). edge.to) same) };
        }

    of_begin : name.rcnm ≡ 130 → (vector : Vector) → finite.get before.vectors name ≡ Some vector → (from to : Name) → ends_of vector.pointers ≡ Some (from, to) → (o : Option Pt) → place_of before from ≡ o → Found (edge_of after name) edge
    of_begin h vector f from to g None i = nothing (no_begin before name vector from to h f g i)
    of_begin h vector f from to g (Some begin) i = of_end h vector f from to g begin i (place_of before to) refl

    of_ends : name.rcnm ≡ 130 → (vector : Vector) → finite.get before.vectors name ≡ Some vector → (o : Option (Name × Name)) → ends_of vector.pointers ≡ o → Found (edge_of after name) edge
    of_ends h vector f None g = nothing (no_ends before name vector h f g)
    of_ends h vector f (Some ends) g = of_begin h vector f ends.0 ends.1 g (place_of before ends.0) refl

    of_vector : name.rcnm ≡ 130 → (o : Option Vector) → finite.get before.vectors name ≡ o → Found (edge_of after name) edge
    of_vector h None f = nothing (no_edge before name h f)
    of_vector h (Some vector) f = of_ends h vector f (ends_of vector.pointers) refl

    of_name : (b : Bool) → eqb name.rcnm 130 ≡ b → Found (edge_of after name) edge
    of_name true h = of_vector (eqb-true _ _ h) (finite.get before.vectors name) refl
    of_name false h = nothing (no_edge_name before name (eqb-false _ _ h))

edge_kept : (before after : CellValue) (name : Name) → KeepsVectors before after → IsSome (edge_of before name) → IsSome (edge_of after name)
edge_kept before after name keeps h =
    let edge = value (edge_of before name) h in
    ap is_some (kept_edge before after name edge.0 keeps edge.1).is

pub line_kept : (before after : CellValue) (name : Name) (reversed : Bool) → KeepsVectors before after → IsSome (line_of before name reversed) → IsSome (line_of after name reversed)
line_kept before after name reversed keeps h =
    let line = λ (edge : EdgeValue). (way_along reversed edge).points in
    is_some-option_map line (edge_of after name) ∙ edge_kept before after name keeps (sym (is_some-option_map line (edge_of before name)) ∙ h)

same_ways : (reversed : Bool) (before after : EdgeValue) → IsSameWay before after → IsSameWay (way_along reversed before) (way_along reversed after)
same_ways true before after same = record { from = same.to; to = same.from }
same_ways false before after same = same

kept_along : (before after : CellValue) (pointer : Pointer) (edge : EdgeValue) → KeepsVectors before after → edge_along before pointer ≡ Some edge → Found (edge_along after pointer) edge
kept_along before after pointer edge keeps e = go (edge_of before pointer.target) refl e
  where
    go : (o : Option EdgeValue) → edge_of before pointer.target ≡ o → option_map (way_along (eqb pointer.ornt 2)) o ≡ Some edge → Found (edge_along after pointer) edge
    go None f g = absurd (none-some edge g)
    go (Some recorded) f g =
        let k = kept_edge before after pointer.target recorded keeps f in
        let way = way_along (eqb pointer.ornt 2) in
        record {
          kept = way k.kept;
          is = ap (option_map way) k.is;
          same = subst (λ (e : EdgeValue). IsSameWay e (way k.kept)) (same_Some _ _ g) (same_ways (eqb pointer.ornt 2) recorded k.kept k.same);
        }

-- ---- rings

chains_kept : (before after : CellValue) (ring : Option OpenRing) (pointers : List Pointer) → KeepsVectors before after → IsSome (chains_at before ring pointers) → IsSome (chains_at after ring pointers)
chains_kept before after ring [] keeps h = at_end after ring ∙ sym (at_end before ring) ∙ h
chains_kept before after ring (p ∷ rest) keeps h = of_edge (λ next. chains_kept before after next rest keeps) (edge_along before p) refl
  where
    nothing : {P : Type 0} → chains_at before ring (p ∷ rest) ≡ None → P
    nothing none = absurd (false≢true (sym (ap is_some none) ∙ h))

    of_next : ((next : Option OpenRing) → IsSome (chains_at before next rest) → IsSome (chains_at after next rest)) → (edge : EdgeValue) → edge_along before p ≡ Some edge → (o : Option (Option OpenRing)) → ring_after ring edge.from edge.to ≡ o → IsSome (chains_at after ring (p ∷ rest))
    of_next later edge e None f = nothing (broken before ring p rest edge e f)
    of_next later edge e (Some next) f =
        let k = kept_along before after p edge keeps e in
        let same : ring_after ring k.kept.from k.kept.to ≡ Some next = rw (k.same.from, k.same.to) f in
        let was = sym (is_some-option_map (before_rings edge next) (chains_at before next rest)) ∙ ap is_some (sym (goes_on before ring next p rest edge e f)) ∙ h in
        ap is_some (goes_on after ring next p rest k.kept k.is same) ∙ is_some-option_map (before_rings k.kept next) (chains_at after next rest) ∙ later next was

    of_edge : ((next : Option OpenRing) → IsSome (chains_at before next rest) → IsSome (chains_at after next rest)) → (o : Option EdgeValue) → edge_along before p ≡ o → IsSome (chains_at after ring (p ∷ rest))
    of_edge later None e = nothing (no_line before ring p rest e)
    of_edge later (Some edge) e = of_next later edge e (ring_after ring edge.from edge.to) refl

rings_kept : (before after : CellValue) (pointers : List Pointer) → KeepsVectors before after → IsSome (rings_of before pointers) → IsSome (rings_of after pointers)
rings_kept before after [] keeps h = absurd (false≢true (sym (ap is_some (no_pointers before [] refl)) ∙ h))
rings_kept before after (p ∷ rest) keeps h =
    has_rings after (p ∷ rest) (omega arith) ∙ chains_kept before after None (p ∷ rest) keeps (sym (has_rings before (p ∷ rest) (omega arith)) ∙ h)

-- ---- shapes

pub shape_kept : (before after : CellValue) (feature : Feature) → KeepsVectors before after → IsSome (shape_of before feature) → IsSome (shape_of after feature)
shape_kept before after feature keeps h = of_point (eqb feature.prim 1) refl
  where
    node_kept : (name : Name) → IsSome (node_of before name) → IsSome (node_of after name)
    node_kept name some =
        let node = value (node_of before name) some in
        ap is_some (kept_node before after name node.0 keeps node.1).1

    bare : IsNoPlace feature → IsSome (shape_of after feature)
    bare none = sym (bare_shape after feature none) ∙ bare_shape before feature none ∙ h

    area : feature.prim ≡ 3 → IsSome (shape_of after feature)
    area is = sym (area_shape after feature is) ∙ rings_kept before after feature.pointers keeps (area_shape before feature is ∙ h)

    line : feature.prim ≡ 2 → IsSome (shape_of after feature)
    line is =
        let lines = (line_shape before feature is).1 h in
        (line_shape after feature is).0 (λ k d lt. edge_kept before after (get_or feature.pointers k d).target keeps (lines k d lt))

    point : feature.prim ≡ 1 → IsSome (shape_of after feature)
    point is =
        let nodes = (point_shape before feature is).1 h in
        (point_shape after feature is).0 (λ k d lt. node_kept (get_or feature.pointers k d).target (nodes k d lt))

    of_area : feature.prim ≢ 1 → feature.prim ≢ 2 → (b : Bool) → eqb feature.prim 3 ≡ b → IsSome (shape_of after feature)
    of_area no_point no_line true e = area (eqb-true _ _ e)
    of_area no_point no_line false e = bare (record { no_point = no_point; no_line = no_line; no_area = eqb-false _ _ e })

    of_line : feature.prim ≢ 1 → (b : Bool) → eqb feature.prim 2 ≡ b → IsSome (shape_of after feature)
    of_line no_point true e = line (eqb-true _ _ e)
    of_line no_point false e = of_area no_point (eqb-false _ _ e) (eqb feature.prim 3) refl

    of_point : (b : Bool) → eqb feature.prim 1 ≡ b → IsSome (shape_of after feature)
    of_point true e = point (eqb-true _ _ e)
    of_point false e = of_line (eqb-false _ _ e) (eqb feature.prim 2) refl

-- Rings that are traced pointer by pointer.
use Rattle.std.proofs.Common.{◌≡◌, ℕ, ◌<◌, ◌≤◌, ◌+◌, not, List, [], ◌∷◌, map, length, drop, get_or, Option, Some, None, is_some, IsSome, option_map, refl, sym, ap, ◌∙◌, arith, add-one, drop-cons}
use Rattle.std.proofs.lemmas.Bool.{false≢true}
use Rattle.std.proofs.Math.ListN.{drop_of_length-le}
use Rattle.chart_model.specs.declared.record.Pointer.{Pointer}
use Rattle.chart_model.specs.Cell.{CellValue}
use Rattle.area_rings.specs.declared.edge.DirectedEdge.{DirectedEdge}
use Rattle.area_rings.specs.declared.trace.OpenRing.{OpenRing}
use Rattle.area_rings.specs.Choice.{◌>>=◌, each}
use Rattle.area_rings.specs.Direction.{value_of}
use Rattle.area_rings.specs.Edge.{EdgeValue, edge_along}
use Rattle.area_rings.specs.Rings.{ring_after, before_rings, chains_of, ring_points, rings_of}

-- the rings that pointers make, the first of which may have begun before them
abbrev pub chains_at : CellValue → Option OpenRing → List Pointer → Option (List (List EdgeValue))
chains_at cell ring pointers = each (edge_along cell) pointers >>= chains_of ring

pub no_line : (cell : CellValue) (ring : Option OpenRing) (p : Pointer) (rest : List Pointer) → edge_along cell p ≡ None → chains_at cell ring (p ∷ rest) ≡ None
no_line cell ring p rest e = rw e refl

-- one edge more
chains_step : (ring : Option OpenRing) (edge : EdgeValue) (edges : Option (List EdgeValue)) → ((edges >>= (λ more. Some (edge ∷ more))) >>= chains_of ring) ≡ (ring_after ring edge.from edge.to >>= (λ next. option_map (before_rings edge next) (edges >>= chains_of next)))
unfolding chains_of
chains_step ring edge None = nothing (ring_after ring edge.from edge.to)
  where
    nothing : (o : Option (Option OpenRing)) → ◌≡◌ {A = Option (List (List EdgeValue))} None (o >>= (λ next. None))
    nothing None = refl
    nothing (Some next) = refl
chains_step ring edge (Some edges) = refl

-- an edge that the ring doesn't go on with
pub broken : (cell : CellValue) (ring : Option OpenRing) (p : Pointer) (rest : List Pointer) (edge : EdgeValue) → edge_along cell p ≡ Some edge → ring_after ring edge.from edge.to ≡ None → chains_at cell ring (p ∷ rest) ≡ None
broken cell ring p rest edge e f =
    rw e (chains_step ring edge (each (edge_along cell) rest) ∙ rw f refl)

-- an edge that the ring goes on with
pub goes_on : (cell : CellValue) (ring next : Option OpenRing) (p : Pointer) (rest : List Pointer) (edge : EdgeValue) → edge_along cell p ≡ Some edge → ring_after ring edge.from edge.to ≡ Some next → chains_at cell ring (p ∷ rest) ≡ option_map (before_rings edge next) (chains_at cell next rest)
goes_on cell ring next p rest edge e f =
    rw e (chains_step ring edge (each (edge_along cell) rest) ∙ rw f refl)

-- no pointer is left
pub at_end : (cell : CellValue) (ring : Option OpenRing) → is_some (chains_at cell ring []) ≡ not (is_some ring)
unfolding chains_of
at_end cell None = refl
at_end cell (Some begun) = refl

pub is_some-option_map : {X Y : Type 0} (f : X → Y) (o : Option X) → is_some (option_map f o) ≡ is_some o
is_some-option_map f None = refl
is_some-option_map f (Some x) = refl

-- whether there are rings, where some pointers are passed
pub record Remains (cell : CellValue) (ring : Option OpenRing) (rest all : List Pointer) : Type 0 where
  pub same : is_some (chains_at cell ring rest) ≡ is_some (chains_at cell None all)

pub at_pointer : (cell : CellValue) (ring : Option OpenRing) (pointers : List Pointer) (i : ℕ) (d : Pointer) → i < length pointers → chains_at cell ring (drop i pointers) ≡ chains_at cell ring (get_or pointers i d ∷ drop (i + 1) pointers)
at_pointer cell ring pointers i d h = rw (add-one, drop-cons pointers i d) refl

-- a pointer adds this edge to the ring, which then stands so
pub record Adds (cell : CellValue) (ring next : Option OpenRing) (p : Pointer) (edge : EdgeValue) : Type 0 where
  pub line : edge_along cell p ≡ Some edge
  pub follows : ring_after ring edge.from edge.to ≡ Some next

-- an edge that was found, and that the ring goes on with, is what the pointer adds
pub adds_found : (cell : CellValue) (ring next : Option OpenRing) (p : Pointer) (found : Option DirectedEdge) (edge : DirectedEdge) (after : Option (Option OpenRing)) → option_map value_of found ≡ edge_along cell p → found ≡ Some edge → after ≡ ring_after ring edge.from edge.to → after ≡ Some next → Adds cell ring next p (value_of edge)
adds_found cell ring next p found edge after is there follows so = record {
  line = sym is ∙ ap (option_map value_of) there;
  follows = sym follows ∙ so;
}

-- the rings from a pointer on are those behind it, with the edge that it adds
pub added_at : (cell : CellValue) (ring next : Option OpenRing) (pointers : List Pointer) (i : ℕ) (d : Pointer) (edge : EdgeValue) → i < length pointers → Adds cell ring next (get_or pointers i d) edge → chains_at cell ring (drop i pointers) ≡ option_map (before_rings edge next) (chains_at cell next (drop (i + 1) pointers))
added_at cell ring next pointers i d edge lt added =
    at_pointer cell ring pointers i d lt
    ∙ goes_on cell ring next (get_or pointers i d) (drop (i + 1) pointers) edge added.line added.follows

none_left : (cell : CellValue) (ring : Option OpenRing) (pointers : List Pointer) (i : ℕ) (all : List Pointer) → Remains cell ring (drop i pointers) all → chains_at cell ring (drop i pointers) ≡ None → ¬ IsSome (chains_at cell None all)
none_left cell ring pointers i all r e h = absurd (false≢true (ap is_some (sym e) ∙ r.same ∙ h))

pub no_line_left : (cell : CellValue) (ring : Option OpenRing) (pointers : List Pointer) (i : ℕ) (d : Pointer) (all : List Pointer) → Remains cell ring (drop i pointers) all → i < length pointers → edge_along cell (get_or pointers i d) ≡ None → ¬ IsSome (chains_at cell None all)
no_line_left cell ring pointers i d all r lt e =
    none_left cell ring pointers i all r (at_pointer cell ring pointers i d lt ∙ no_line cell ring (get_or pointers i d) (drop (i + 1) pointers) e)

pub broken_left : (cell : CellValue) (ring : Option OpenRing) (pointers : List Pointer) (i : ℕ) (d : Pointer) (all : List Pointer) (edge : EdgeValue) → Remains cell ring (drop i pointers) all → i < length pointers → edge_along cell (get_or pointers i d) ≡ Some edge → ring_after ring edge.from edge.to ≡ None → ¬ IsSome (chains_at cell None all)
broken_left cell ring pointers i d all edge r lt e f =
    none_left cell ring pointers i all r (at_pointer cell ring pointers i d lt ∙ broken cell ring (get_or pointers i d) (drop (i + 1) pointers) edge e f)

pub remains_more : (cell : CellValue) (ring next : Option OpenRing) (pointers : List Pointer) (i : ℕ) (d : Pointer) (all : List Pointer) (edge : EdgeValue) → Remains cell ring (drop i pointers) all → i < length pointers → Adds cell ring next (get_or pointers i d) edge → Remains cell next (drop (i + 1) pointers) all
remains_more cell ring next pointers i d all edge r lt added = record {
  same =
      sym (is_some-option_map (before_rings edge next) (chains_at cell next (drop (i + 1) pointers)))
      ∙ ap is_some (sym (added_at cell ring next pointers i d edge lt added))
      ∙ r.same;
}

remains_none : (cell : CellValue) (ring : Option OpenRing) (pointers : List Pointer) (i : ℕ) (all : List Pointer) → Remains cell ring (drop i pointers) all → length pointers ≤ i → is_some (chains_at cell None all) ≡ not (is_some ring)
remains_none cell ring pointers i all r le =
    sym r.same ∙ ap (λ (l : List Pointer). is_some (chains_at cell ring l)) (drop_of_length-le pointers le) ∙ at_end cell ring

-- an area has rings where its pointers make some, and it has pointers
pub has_rings : (cell : CellValue) (pointers : List Pointer) → 0 < length pointers → is_some (rings_of cell pointers) ≡ is_some (chains_at cell None pointers)
unfolding rings_of
has_rings cell [] h = absurd (omega arith)
has_rings cell (p ∷ rest) h = of_edges (each (edge_along cell) (p ∷ rest))
  where
    of_edges : (o : Option (List EdgeValue)) → is_some (o >>= (λ edges. option_map (map ring_points) (chains_of None edges))) ≡ is_some (o >>= chains_of None)
    of_edges None = refl
    of_edges (Some edges) = is_some-option_map (map ring_points) (chains_of None edges)

pub no_pointers : (cell : CellValue) (pointers : List Pointer) → length pointers ≡ 0 → rings_of cell pointers ≡ None
unfolding rings_of
no_pointers cell [] h = refl
no_pointers cell (p ∷ rest) h = absurd (omega arith)

-- all pointers are passed: there are rings where none is open
pub ends_closed : (cell : CellValue) (ring : Option OpenRing) (pointers : List Pointer) (i : ℕ) (all : List Pointer) → Remains cell ring (drop i pointers) all → length pointers ≤ i → 0 < length all → not (is_some ring) ≡ is_some (rings_of cell all)
ends_closed cell ring pointers i all r le some =
    sym (remains_none cell ring pointers i all r le) ∙ sym (has_rings cell all some)

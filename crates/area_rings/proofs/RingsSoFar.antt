-- Rings that are put together pointer by pointer.
use Rattle.std.proofs.Common.{◌≡◌, ℕ, ◌+◌, ◌<◌, ◌≤◌, Bool, true, false, List, [], ◌∷◌, ◌++◌, map, length, drop, get_or, Option, Some, None, is_some, is_none, not, option_map, if◌then◌else◌, refl, sym, ap, ◌∙◌, arith}
use Rattle.std.proofs.lemmas.List.{append_assoc, append-nil}
use Rattle.std.proofs.lemmas.Bool.{false≢true}
use Rattle.std.proofs.Math.ListN.{drop_of_length-le}
use Rattle.chart_model.specs.declared.record.Pointer.{Pointer}
use Rattle.chart_model.specs.Cell.{CellValue}
use Rattle.plane_geometry.specs.declared.point.Pt.{Pt}
use Rattle.area_rings.specs.declared.trace.OpenRing.{OpenRing}
use Rattle.area_rings.specs.Choice.{◌>>=◌, each}
use Rattle.area_rings.specs.Edge.{EdgeValue, edge_along}
use Rattle.area_rings.specs.Rings.{but_last, ring_points, ring_after, before_rings, chains_of, rings_of}
use Rattle.area_rings.proofs.Traces.{chains_at, at_pointer, no_line, broken, Adds, added_at}

-- points before those of the first ring
abbrev pub begun_by : List Pt → List (List Pt) → List (List Pt)
begun_by points [] = []
begun_by points (ring ∷ rings) = (points ++ ring) ∷ rings

begun_by-none : (rings : List (List Pt)) → begun_by [] rings ≡ rings
begun_by-none [] = refl
begun_by-none (ring ∷ rings) = refl

-- all rings, where some are closed, one has these points so far, and the rest are these chains
abbrev pub with_rest : List (List Pt) → List Pt → List (List EdgeValue) → List (List Pt)
with_rest closed points rest = closed ++ begun_by points (map ring_points rest)

-- the rings of all pointers, where some are passed
pub record Rounds (cell : CellValue) (ring : Option OpenRing) (closed : List (List Pt)) (points : List Pt) (rest all : List Pointer) : Type 0 where
  pub same : rings_of cell all ≡ option_map (with_rest closed points) (chains_at cell ring rest)

option_map-map : {A B C : Type 0} (f : B → C) (g : A → B) (o : Option A) → option_map f (option_map g o) ≡ option_map (λ x. f (g x)) o
option_map-map f g None = refl
option_map-map f g (Some x) = refl

option_map-same : {A B : Type 0} (f g : A → B) (o : Option A) → ((x : A) → f x ≡ g x) → option_map f o ≡ option_map g o
option_map-same f g None h = refl
option_map-same f g (Some x) h = ap Some (h x)

-- an edge that leaves the ring open
stays_open : (closed : List (List Pt)) (points : List Pt) (edge : EdgeValue) (ring : OpenRing) (rest : List (List EdgeValue)) → with_rest closed points (before_rings edge (Some ring) rest) ≡ with_rest closed (points ++ but_last edge.points) rest
stays_open closed points edge ring [] = refl
stays_open closed points edge ring (chain ∷ rest) =
    ap (λ (l : List Pt). closed ++ l ∷ map ring_points rest) (sym (append_assoc points (but_last edge.points) (ring_points chain)))

-- an edge that closes the ring
is_closed : (closed : List (List Pt)) (points : List Pt) (edge : EdgeValue) (rest : List (List EdgeValue)) → with_rest closed points (before_rings edge None rest) ≡ with_rest (closed ++ (points ++ but_last edge.points) ∷ []) [] rest
is_closed closed points edge rest =
    ap (λ (l : List Pt). closed ++ (points ++ l) ∷ map ring_points rest) (append-nil (but_last edge.points))
    ∙ sym (append_assoc closed ((points ++ but_last edge.points) ∷ []) (map ring_points rest))
    ∙ ap (λ (l : List (List Pt)). (closed ++ (points ++ but_last edge.points) ∷ []) ++ l) (sym (begun_by-none (map ring_points rest)))

-- before the first pointer
pub at_first : (cell : CellValue) (closed : List (List Pt)) (points : List Pt) (pointers : List Pointer) → closed ≡ [] → points ≡ [] → 0 < length pointers → Rounds cell None closed points pointers pointers
unfolding rings_of
at_first cell closed points [] e f h = absurd (omega arith)
at_first cell closed points (p ∷ rest) e f h = record { same = rw (e, f) (of_edges (each (edge_along cell) (p ∷ rest))) }
  where
    of_edges : (o : Option (List EdgeValue)) → (o >>= (λ edges. option_map (map ring_points) (chains_of None edges))) ≡ option_map (with_rest [] []) (o >>= chains_of None)
    of_edges None = refl
    of_edges (Some edges) = option_map-same (map ring_points) (with_rest [] []) (chains_of None edges) (λ chains. sym (begun_by-none (map ring_points chains)))

-- after an edge more
after_edge : (cell : CellValue) (ring next : Option OpenRing) (closed closed' : List (List Pt)) (points points' : List Pt) (edge : EdgeValue) (o : Option (List (List EdgeValue))) → closed' ≡ (if is_none next then closed ++ (points ++ but_last edge.points) ∷ [] else closed) → points' ≡ (if is_none next then [] else points ++ but_last edge.points) → option_map (with_rest closed points) (option_map (before_rings edge next) o) ≡ option_map (with_rest closed' points') o
after_edge cell ring None closed closed' points points' edge o e f =
    option_map-map (with_rest closed points) (before_rings edge None) o
    ∙ option_map-same _ (with_rest closed' points') o (λ rest. rw (e, f) (is_closed closed points edge rest))
after_edge cell ring (Some open_ring) closed closed' points points' edge o e f =
    option_map-map (with_rest closed points) (before_rings edge (Some open_ring)) o
    ∙ option_map-same _ (with_rest closed' points') o (λ rest. rw (e, f) (stays_open closed points edge open_ring rest))

pub one_more : (cell : CellValue) (ring next : Option OpenRing) (closed closed' : List (List Pt)) (points points' : List Pt) (pointers : List Pointer) (i : ℕ) (d : Pointer) (all : List Pointer) (edge : EdgeValue) → Rounds cell ring closed points (drop i pointers) all → i < length pointers → Adds cell ring next (get_or pointers i d) edge → closed' ≡ (if is_none next then closed ++ (points ++ but_last edge.points) ∷ [] else closed) → points' ≡ (if is_none next then [] else points ++ but_last edge.points) → Rounds cell next closed' points' (drop (i + 1) pointers) all
one_more cell ring next closed closed' points points' pointers i d all edge r lt added g h = record {
  same =
      r.same
      ∙ ap (option_map (with_rest closed points)) (added_at cell ring next pointers i d edge lt added)
      ∙ after_edge cell ring next closed closed' points points' edge (chains_at cell next (drop (i + 1) pointers)) g h;
}

-- a pointer without a line
pub stopped : (cell : CellValue) (ring : Option OpenRing) (closed : List (List Pt)) (points : List Pt) (pointers : List Pointer) (i : ℕ) (d : Pointer) (all : List Pointer) → Rounds cell ring closed points (drop i pointers) all → i < length pointers → edge_along cell (get_or pointers i d) ≡ None → rings_of cell all ≡ None
stopped cell ring closed points pointers i d all r lt e =
    r.same ∙ ap (option_map (with_rest closed points)) (at_pointer cell ring pointers i d lt ∙ no_line cell ring (get_or pointers i d) (drop (i + 1) pointers) e)

-- an edge that begins elsewhere
pub astray : (cell : CellValue) (ring : Option OpenRing) (closed : List (List Pt)) (points : List Pt) (pointers : List Pointer) (i : ℕ) (d : Pointer) (all : List Pointer) (edge : EdgeValue) → Rounds cell ring closed points (drop i pointers) all → i < length pointers → edge_along cell (get_or pointers i d) ≡ Some edge → ring_after ring edge.from edge.to ≡ None → rings_of cell all ≡ None
astray cell ring closed points pointers i d all edge r lt e f =
    r.same ∙ ap (option_map (with_rest closed points)) (at_pointer cell ring pointers i d lt ∙ broken cell ring (get_or pointers i d) (drop (i + 1) pointers) edge e f)

-- after the last pointer
at_last : (cell : CellValue) (ring : Option OpenRing) (closed : List (List Pt)) (points : List Pt) (pointers : List Pointer) (i : ℕ) (all : List Pointer) → Rounds cell ring closed points (drop i pointers) all → length pointers ≤ i → rings_of cell all ≡ option_map (with_rest closed points) (if is_some ring then None else Some [])
unfolding chains_of
at_last cell ring closed points pointers i all r le =
    r.same ∙ ap (λ (l : List Pointer). option_map (with_rest closed points) (chains_at cell ring l)) (drop_of_length-le pointers le)

pub left_open : (cell : CellValue) (ring : Option OpenRing) (closed : List (List Pt)) (points : List Pt) (pointers : List Pointer) (i : ℕ) (all : List Pointer) → Rounds cell ring closed points (drop i pointers) all → length pointers ≤ i → is_some ring ≡ true → rings_of cell all ≡ None
left_open cell ring closed points pointers i all r le e =
    at_last cell ring closed points pointers i all r le ∙ rw e refl

pub all_closed : (cell : CellValue) (ring : Option OpenRing) (closed : List (List Pt)) (points : List Pt) (pointers : List Pointer) (i : ℕ) (all : List Pointer) → Rounds cell ring closed points (drop i pointers) all → length pointers ≤ i → is_some ring ≡ false → rings_of cell all ≡ Some closed
all_closed cell ring closed points pointers i all r le e =
    at_last cell ring closed points pointers i all r le ∙ rw e (ap Some (append-nil closed))

-- no ring is open where none is there
pub none_open : (ring : Option OpenRing) (b : Bool) → is_some ring ≡ not b → b ≡ is_none ring
none_open None true e = refl
none_open None false e = absurd (false≢true e)
none_open (Some begun) true e = absurd (false≢true (sym e))
none_open (Some begun) false e = refl

-- The rings of an area.
use Rattle.std.specs.Prelude.{◌≡◌, ◌≢◌, ◌-◌, Bool, ◌&&◌, ◌==◌, if◌then◌else◌, List, [], ◌∷◌, ◌++◌, map, take, length}
use Rattle.std.specs.Prelude.{All, is_some, Option, Some, None, option_map}
use Rattle.std.specs.List.{flat_map}
use Rattle.chart_model.specs.declared.name.Name.{Name}
use Rattle.chart_model.specs.declared.record.Pointer.{Pointer}
use Rattle.chart_model.specs.Cell.{CellValue}
use Rattle.plane_geometry.specs.declared.point.Pt.{Pt}
use Rattle.area_rings.specs.declared.trace.OpenRing.{OpenRing}
use Rattle.area_rings.specs.Choice.{◌>>=◌, each}
use Rattle.area_rings.specs.Edge.{EdgeValue, edge_along}

-- each edge begins at the node where the one before it ends
abbrev pub IsLinked : List EdgeValue → Type 0
IsLinked [] = Unit {0}
IsLinked (edge ∷ []) = Unit {0}
IsLinked (edge ∷ next ∷ rest) = (next.from ≡ edge.to) × IsLinked (next ∷ rest)

-- the last of the edges ends at the node where the first begins
pub record Returns (edges : List EdgeValue) : Type 0 where
  pub first : EdgeValue
  pub others : List EdgeValue
  pub before : List EdgeValue
  pub last : EdgeValue
  pub begins : edges ≡ first ∷ others
  pub ends : edges ≡ before ++ last ∷ []
  pub home : last.to ≡ first.from

-- a ring: linked edges that return to their first node, which no shorter front of them does
pub record IsRing (edges : List EdgeValue) : Type 0 where
  pub linked : IsLinked edges
  pub returns : Returns edges
  pub shortest : (front rest : List EdgeValue) → edges ≡ front ++ rest → Returns front → rest ≡ []

-- the points without the last
abbrev pub but_last : List Pt → List Pt
but_last points = take (length points - 1) points

-- the points round a ring, each node once: those of each edge without its last, which the next edge,
-- or for the last edge the first, begins with
abbrev pub ring_points : List EdgeValue → List Pt
ring_points edges = flat_map (λ edge. but_last edge.points) edges

-- the rings that an area's pointers make: the pointers' edges are rings one after the other
pub record HasRings (cell : CellValue) (pointers : List Pointer) (rings : List (List Pt)) : Type 0 where
  pub some : pointers ≢ []
  pub chains : List (List EdgeValue)
  pub traced : map (edge_along cell) pointers ≡ map Some (flat_map (λ chain. chain) chains)
  pub closed : All IsRing chains
  pub points : rings ≡ map ring_points chains

abbrev pub same_name : Name → Name → Bool
same_name a b = (a.rcnm == b.rcnm) && (a.rcid == b.rcid)

-- how a ring stands after an edge from a node to another: no ring is left where the edge closes it;
-- nothing where the edge begins elsewhere than the ring has come to
abbrev pub ring_after : Option OpenRing → Name → Name → Option (Option OpenRing)
ring_after None from to =
    Some (if same_name to from then None else Some (record { home = from; at = to }))
ring_after (Some ring) from to =
    if same_name ring.at from then
    Some (if same_name to ring.home then None else Some (record { home = ring.home; at = to }))
    else None

-- an edge before the edges of the first ring, where that is open, or as a ring by itself
abbrev pub before_rings : EdgeValue → Option OpenRing → List (List EdgeValue) → List (List EdgeValue)
before_rings edge None rings = (edge ∷ []) ∷ rings
before_rings edge (Some begun) [] = []
before_rings edge (Some begun) (ring ∷ rings) = (edge ∷ ring) ∷ rings

-- edges as rings one after the other, the first of which may have begun before them
unfoldable pub chains_of : Option OpenRing → List EdgeValue → Option (List (List EdgeValue))
chains_of begun [] = if is_some begun then None else Some []
chains_of begun (edge ∷ rest) = do
  next ← ring_after begun edge.from edge.to
  option_map (before_rings edge next) (chains_of next rest)

-- the rings that an area's pointers make
unfoldable pub rings_of : CellValue → List Pointer → Option (List (List Pt))
rings_of cell [] = None
rings_of cell (pointer ∷ rest) = do
  edges ← each (edge_along cell) (pointer ∷ rest)
  option_map (map ring_points) (chains_of None edges)

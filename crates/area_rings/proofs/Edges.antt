-- Nodes and edges by the steps in which they are found.
use Rattle.std.proofs.Common.{◌≡◌, ◌≢◌, ◌<◌, ◌≤◌, true, false, List, [], ◌∷◌, ◌++◌, map, length, get_or, slice_get, Some, None, refl, arith}
use Rattle.std.specs.FinMap as finite
use Rattle.std.proofs.lemmas.Bool.{eq-eqb, ne_eqb}
use Rattle.chart_model.specs.declared.name.Name.{Name}
use Rattle.chart_model.specs.declared.record.Coord.{Coord}
use Rattle.chart_model.specs.declared.record.Pointer.{Pointer}
use Rattle.chart_model.specs.declared.cell.Vector.{Vector}
use Rattle.chart_model.specs.Cell.{CellValue}
use Rattle.plane_geometry.specs.declared.point.Pt.{Pt}
use Rattle.area_rings.specs.Edge.{node_of, point_of, place_of, begins_and_ends, ends_of, edge_of}

pub no_node : (cell : CellValue) (name : Name) → node_of cell name ≡ None → place_of cell name ≡ None
unfolding place_of
no_node cell name e = rw e refl

pub no_coordinate : (cell : CellValue) (name : Name) (node : Vector) → node_of cell name ≡ Some node → slice_get node.coords 0 ≡ None → place_of cell name ≡ None
unfolding place_of
no_coordinate cell name node e f = rw (e, f) refl

pub coordinate : (cell : CellValue) (name : Name) (node : Vector) (coord : Coord) → node_of cell name ≡ Some node → slice_get node.coords 0 ≡ Some coord → place_of cell name ≡ Some (point_of coord)
unfolding place_of
coordinate cell name node coord e f = rw (e, f) refl

-- what stands past the end of a list of pointers
abbrev pub blank : Pointer
blank = record { target = record { rcnm = 0; rcid = 0 }; ornt = 0; usag = 0; topi = 0; mask = 0 }

-- one pointer, or none
pub too_few : (pointers : List Pointer) → length pointers < 2 → ends_of pointers ≡ None
unfolding ends_of
too_few [] h = refl
too_few (p ∷ []) h = refl
too_few (p ∷ q ∷ rest) h = absurd (omega arith)

-- three pointers or more
pub too_many : (pointers : List Pointer) → 3 ≤ length pointers → ends_of pointers ≡ None
unfolding ends_of
too_many [] h = refl
too_many (p ∷ []) h = refl
too_many (p ∷ q ∷ []) h = absurd (omega arith)
too_many (p ∷ q ∷ r ∷ rest) h = refl

-- two pointers
pub two_pointers : (pointers : List Pointer) (d : Pointer) → 2 ≤ length pointers → length pointers < 3 → ends_of pointers ≡ ends_of (get_or pointers 0 d ∷ get_or pointers 1 d ∷ [])
two_pointers [] d h k = absurd (omega arith)
two_pointers (p ∷ []) d h k = absurd (omega arith)
two_pointers (p ∷ q ∷ []) d h k = refl
two_pointers (p ∷ q ∷ r ∷ rest) d h k = absurd (omega arith)

pub in_order : (p q : Pointer) → begins_and_ends p q ≡ true → ends_of (p ∷ q ∷ []) ≡ Some (p.target, q.target)
unfolding ends_of
in_order p q e = rw e refl

pub exchanged : (p q : Pointer) → begins_and_ends p q ≡ false → begins_and_ends q p ≡ true → ends_of (p ∷ q ∷ []) ≡ Some (q.target, p.target)
unfolding ends_of
exchanged p q e f = rw (e, f) refl

pub neither : (p q : Pointer) → begins_and_ends p q ≡ false → begins_and_ends q p ≡ false → ends_of (p ∷ q ∷ []) ≡ None
unfolding ends_of
neither p q e f = rw (e, f) refl

pub no_edge_name : (cell : CellValue) (name : Name) → name.rcnm ≢ 130 → edge_of cell name ≡ None
unfolding edge_of
no_edge_name cell name h = rw (ne_eqb name.rcnm 130 h) refl

pub no_edge : (cell : CellValue) (name : Name) → name.rcnm ≡ 130 → finite.get cell.vectors name ≡ None → edge_of cell name ≡ None
unfolding edge_of
no_edge cell name h e = rw (eq-eqb name.rcnm 130 h, e) refl

pub no_ends : (cell : CellValue) (name : Name) (edge : Vector) → name.rcnm ≡ 130 → finite.get cell.vectors name ≡ Some edge → ends_of edge.pointers ≡ None → edge_of cell name ≡ None
unfolding edge_of
no_ends cell name edge h e f = rw (eq-eqb name.rcnm 130 h, e, f) refl

pub no_begin : (cell : CellValue) (name : Name) (edge : Vector) (from to : Name) → name.rcnm ≡ 130 → finite.get cell.vectors name ≡ Some edge → ends_of edge.pointers ≡ Some (from, to) → place_of cell from ≡ None → edge_of cell name ≡ None
unfolding edge_of
no_begin cell name edge from to h e f g = rw (eq-eqb name.rcnm 130 h, e, f, g) refl

pub no_end : (cell : CellValue) (name : Name) (edge : Vector) (from to : Name) (begin : Pt) → name.rcnm ≡ 130 → finite.get cell.vectors name ≡ Some edge → ends_of edge.pointers ≡ Some (from, to) → place_of cell from ≡ Some begin → place_of cell to ≡ None → edge_of cell name ≡ None
unfolding edge_of
no_end cell name edge from to begin h e f g i = rw (eq-eqb name.rcnm 130 h, e, f, g, i) refl

pub whole_edge : (cell : CellValue) (name : Name) (edge : Vector) (from to : Name) (begin end : Pt) → name.rcnm ≡ 130 → finite.get cell.vectors name ≡ Some edge → ends_of edge.pointers ≡ Some (from, to) → place_of cell from ≡ Some begin → place_of cell to ≡ Some end → edge_of cell name ≡ Some (record { from = from; to = to; points = begin ∷ map point_of edge.coords ++ end ∷ [] })
unfolding edge_of
whole_edge cell name edge from to begin end h e f g i = rw (eq-eqb name.rcnm 130 h, e, f, g, i) refl

-- Closed charts.
use Rattle.std.specs.Prelude.{◌≡◌, ◌≢◌, ℕ, Bool, true, false, not, ◌&&◌, ◌||◌, ◌==◌, if◌then◌else◌, List, [], ◌∷◌}
use Rattle.std.specs.Prelude.{◌++◌, map, Option, Some, option_map, option_and_then, is_none, IsSome, IsNone}
use Rattle.std.specs.List.{find, list_all}
use Rattle.std.specs.FinMap as finite
use Rattle.std.specs.declared.cmp.Ordering.TheVariants.{Greater}
use Rattle.chart_model.specs.declared.name.Name.{Name}
use Rattle.chart_model.specs.declared.record.Pointer.{Pointer}
use Rattle.chart_model.specs.declared.cell.Vector.{Vector}
use Rattle.chart_model.specs.declared.cell.Feature.{Feature}
use Rattle.chart_model.specs.Answers.{when, first_of}
use Rattle.chart_model.specs.Cell.{CellValue}
use Rattle.chart_model.specs.Codes.{CONNECTED_NODE, EDGE, POINT, LINE, AREA}
use Rattle.chart_model.specs.Names.{name_cmp}
use Rattle.area_rings.specs.Edge.{is_node}
use Rattle.area_rings.specs.Shape.{line_of, shape_of}
use Rattle.chart_closure.specs.declared.fault.ClosureFault.{ClosureFault}
use Rattle.chart_closure.specs.declared.fault.ClosureFault.TheVariants.{Dangling, EdgeNodes, RingOpen, WrongPointer}

-- the cell has a record of that name
abbrev pub has_record : CellValue → Name → Bool
has_record cell name = finite.contains_key cell.vectors name || finite.contains_key cell.features name

-- the first target of which the cell has no record
abbrev pub absent_target : CellValue → List Pointer → Option Name
absent_target cell pointers = find (λ target. not (has_record cell target)) (map (λ pointer. pointer.target) pointers)

-- an edge points to connected nodes, and a node to nothing
abbrev pub vector_may_point : Name → Name → Bool
vector_may_point name target = (name.rcnm == EDGE) && (target.rcnm == CONNECTED_NODE)

-- a point feature points to nodes, a line feature or an area to edges, any other to whatever it will
abbrev pub feature_may_point : ℕ → Name → Bool
feature_may_point prim target =
    if prim == POINT then is_node target else (
    if (prim == LINE) || (prim == AREA) then target.rcnm == EDGE else true)

-- the fault of a vector record; an edge that points rightly has no line where it hasn't one begin node
-- and one end node and no other pointer, or one of them has no coordinate
unfoldable pub vector_fault : CellValue → Name → Vector → Option ClosureFault
vector_fault cell name vector = first_of (
    option_map (Dangling name) (absent_target cell vector.pointers) ∷
    when (not (list_all (λ pointer. vector_may_point name pointer.target) vector.pointers)) (WrongPointer name) ∷
    when ((name.rcnm == EDGE) && is_none (line_of cell name false)) (EdgeNodes name) ∷ [])

-- the fault of a feature
unfoldable pub feature_fault : CellValue → Name → Feature → Option ClosureFault
feature_fault cell name feature = first_of (
    option_map (Dangling name) (absent_target cell feature.pointers) ∷
    when (not (list_all (λ pointer. feature_may_point feature.prim pointer.target) feature.pointers))
    (WrongPointer name) ∷
    when ((feature.prim == AREA) && is_none (shape_of cell feature)) (RingOpen name) ∷ [])

-- the fault of the record of that name
unfoldable pub fault_at : CellValue → Name → Option ClosureFault
fault_at cell name = first_of (
    option_and_then (feature_fault cell name) (finite.get cell.features name) ∷
    option_and_then (vector_fault cell name) (finite.get cell.vectors name) ∷ [])

-- no record has a fault
abbrev pub IsClosed : CellValue → Type 0
IsClosed cell = (name : Name) → IsNone (fault_at cell name)

-- the fault is that of the least name with one
pub record IsLeastFault (cell : CellValue) (fault : ClosureFault) : Type 0 where
  pub name : Name
  pub has : fault_at cell name ≡ Some fault
  pub least : (other : Name) → IsSome (fault_at cell other) → name_cmp name other ≢ Greater

-- the first fault in the order of the names, in which features come before vector records
unfoldable pub closure_fault : CellValue → Option ClosureFault
closure_fault cell = first_of (
    map (λ entry. feature_fault cell entry.0 entry.1) (finite.entries cell.features)
    ++ map (λ entry. vector_fault cell entry.0 entry.1) (finite.entries cell.vectors))

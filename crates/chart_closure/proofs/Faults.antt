-- The fault of a record by its conditions.
use Rattle.std.proofs.Common.{◌≡◌, Bool, true, false, ◌&&◌, eqb, Some, None, is_none, refl}
use Rattle.std.specs.List.{list_all}
use Rattle.chart_model.specs.declared.name.Name.{Name}
use Rattle.chart_model.specs.declared.cell.Vector.{Vector}
use Rattle.chart_model.specs.declared.cell.Feature.{Feature}
use Rattle.chart_model.specs.Cell.{CellValue}
use Rattle.area_rings.specs.Shape.{line_of, shape_of}
use Rattle.chart_closure.specs.declared.fault.ClosureFault.TheVariants.{Dangling, EdgeNodes, RingOpen, WrongPointer}
use Rattle.chart_closure.specs.Closed.{absent_target, vector_may_point, feature_may_point, vector_fault, feature_fault}

abbrev pub vector_pointers_fit : Name → Vector → Bool
vector_pointers_fit name vector = list_all (λ pointer. vector_may_point name pointer.target) vector.pointers

abbrev pub lacks_line : CellValue → Name → Bool
lacks_line cell name = (eqb name.rcnm 130) && is_none (line_of cell name false)

pub vector_dangling : (cell : CellValue) (name target : Name) (vector : Vector) → absent_target cell vector.pointers ≡ Some target → vector_fault cell name vector ≡ Some (Dangling name target)
unfolding vector_fault
vector_dangling cell name target vector e = rw e refl

pub vector_wrong : (cell : CellValue) (name : Name) (vector : Vector) → absent_target cell vector.pointers ≡ None → vector_pointers_fit name vector ≡ false → vector_fault cell name vector ≡ Some (WrongPointer name)
unfolding vector_fault
vector_wrong cell name vector e f = rw (e, f) refl

pub vector_nodes : (cell : CellValue) (name : Name) (vector : Vector) → absent_target cell vector.pointers ≡ None → vector_pointers_fit name vector ≡ true → lacks_line cell name ≡ true → vector_fault cell name vector ≡ Some (EdgeNodes name)
unfolding vector_fault
vector_nodes cell name vector e f g = rw (e, f, g) refl

pub vector_faultless : (cell : CellValue) (name : Name) (vector : Vector) → absent_target cell vector.pointers ≡ None → vector_pointers_fit name vector ≡ true → lacks_line cell name ≡ false → vector_fault cell name vector ≡ None
unfolding vector_fault
vector_faultless cell name vector e f g = rw (e, f, g) refl

abbrev pub feature_pointers_fit : Feature → Bool
feature_pointers_fit feature = list_all (λ pointer. feature_may_point feature.prim pointer.target) feature.pointers

abbrev pub lacks_rings : CellValue → Feature → Bool
lacks_rings cell feature = (eqb feature.prim 3) && is_none (shape_of cell feature)

pub feature_dangling : (cell : CellValue) (name target : Name) (feature : Feature) → absent_target cell feature.pointers ≡ Some target → feature_fault cell name feature ≡ Some (Dangling name target)
unfolding feature_fault
feature_dangling cell name target feature e = rw e refl

pub feature_wrong : (cell : CellValue) (name : Name) (feature : Feature) → absent_target cell feature.pointers ≡ None → feature_pointers_fit feature ≡ false → feature_fault cell name feature ≡ Some (WrongPointer name)
unfolding feature_fault
feature_wrong cell name feature e f = rw (e, f) refl

pub feature_open : (cell : CellValue) (name : Name) (feature : Feature) → absent_target cell feature.pointers ≡ None → feature_pointers_fit feature ≡ true → lacks_rings cell feature ≡ true → feature_fault cell name feature ≡ Some (RingOpen name)
unfolding feature_fault
feature_open cell name feature e f g = rw (e, f, g) refl

pub feature_faultless : (cell : CellValue) (name : Name) (feature : Feature) → absent_target cell feature.pointers ≡ None → feature_pointers_fit feature ≡ true → lacks_rings cell feature ≡ false → feature_fault cell name feature ≡ None
unfolding feature_fault
feature_faultless cell name feature e f g = rw (e, f, g) refl

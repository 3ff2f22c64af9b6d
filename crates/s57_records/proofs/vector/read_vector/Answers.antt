use Rattle.s57_records.proofs.AnswerLemmas.{given}
use Rattle.s57_records.proofs.Made.{vector_from_parts}
use Rattle.s57_records.proofs.vector.read_vector.Goals as goal

-- src/vector.rt:59:5
pub invariant_of-result : goal.invariant_of-result
invariant_of-result c =
    rw c.new.ensures (vector_from_parts c.args.base c.args.fields.now c.in_ok-head.head c.in_ok-attrs.attrs c.in_ok-pointer_edit.pointer_edit c.in_ok-pointers.pointers c.in_ok-coord_edit.coord_edit c.in_ok-coords.coords (given _ _ _ c.read_vector_head.ensures c.in_ok-head.was) (given _ _ _ c.vector_attrs.ensures c.in_ok-attrs.was) (rw c.vector-rows.ensures at (given _ _ _ c.read_edit.ensures c.in_ok-pointer_edit.was)) (rw c.vector-rows.ensures at (given _ _ _ c.read_edit-2.ensures c.in_ok-coord_edit.was)) (given _ _ _ c.read_coords.ensures c.in_ok-coords.was))

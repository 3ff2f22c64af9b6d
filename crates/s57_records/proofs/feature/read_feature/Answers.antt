use Rattle.s57_records.proofs.AnswerLemmas.{given}
use Rattle.s57_records.proofs.Made.{feature_from_parts}
use Rattle.s57_records.proofs.feature.read_feature.Goals as goal

-- src/feature.rt:39:5
pub invariant_of-result : goal.invariant_of-result
invariant_of-result c =
    rw c.new.ensures (feature_from_parts c.args.base c.args.fields.now c.in_ok-head.head c.in_ok-foid.foid c.in_ok-attrs.attrs c.in_ok-related_edit.related_edit c.in_ok-related.related c.in_ok-pointer_edit.pointer_edit c.in_ok-pointers.pointers (given _ _ _ c.read_feature_head.ensures c.in_ok-head.was) (given _ _ _ c.read_foid.ensures c.in_ok-foid.was) (given _ _ _ c.feature_attrs.ensures c.in_ok-attrs.was) (rw c.feature-rows.ensures at (given _ _ _ c.read_edit.ensures c.in_ok-related_edit.was)) (rw c.feature-rows.ensures at (given _ _ _ c.read_edit-2.ensures c.in_ok-pointer_edit.was)) (given _ _ _ c.feature_pointers.ensures c.in_ok-pointers.was))

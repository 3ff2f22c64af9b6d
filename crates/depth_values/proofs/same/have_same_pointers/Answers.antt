use Rattle.std.proofs.Common.{sym, ◌∙◌}
use Rattle.depth_values.proofs.Pointers.{pointer_lists}
use Rattle.depth_values.proofs.same.have_same_pointers.Goals as goal

pub returns : goal.returns
returns c = λ so.
    sym c.as_slice.ensures
    ∙ (pointer_lists c.as_slice.result.now c.as_slice-2.result.now).0 (sym c.eq.ensures ∙ so)
    ∙ c.as_slice-2.ensures

use Rattle.std.proofs.Common.{sym, ◌∙◌}
use Rattle.spatial_grid.proofs.Pointers.{pointer_lists}
use Rattle.spatial_grid.proofs.kept.have_same_place.Goals as goal

pub returns-then-before-after : goal.returns-then-before-after
returns-then-before-after c =
    let same = pointer_lists c.as_slice.result.now c.as_slice-then-before-after.result.now in (
      λ so. record {
        prim = sym c.if-before-after.true;
        pointers = sym c.as_slice-then-before-after.ensures ∙ sym (same.0 (sym c.eq.ensures ∙ so)) ∙ c.as_slice.ensures;
      },
      λ h. c.eq.ensures ∙ same.1 (c.as_slice.ensures ∙ sym h.pointers ∙ sym c.as_slice-then-before-after.ensures),
    )

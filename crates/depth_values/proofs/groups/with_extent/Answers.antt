use Rattle.std.proofs.Common.{◌≡◌, Some, length, refl, sym, ◌∙◌, subst, arith}
use Rattle.std.specs.Prelude.{slice_get}
use Rattle.std.proofs.lemmas.Option.{slice_get_read, slice_get_within}
use Rattle.common_lemmas.proofs.Choices.{some_is}
use Rattle.plane_bounds.specs.Bounds.{RingsIn}
use Rattle.depth_values.specs.DepthArea.{ExtentValue}
use Rattle.depth_values.proofs.Grouped.{rings_in_grown}
use Rattle.depth_values.proofs.groups.with_extent.Goals as goal

pub returns-in-Some-clause-there : goal.returns-in-Some-clause-there
returns-in-Some-clause-there c = λ extent there.
    let extents = c.args.extents.now in
    let found = c.in-Some.ensures.lookup in
    let here : slice_get extents c.args.place ≡ Some c.in-Some.extent.now =
    slice_get_read extents (length extents) c.args.place c.in-Some.extent.now refl found.3.0 found.1 in
    let same = some_is c.in-Some.extent.now extent (sym here ∙ there) in
    rings_in_grown c.around.result c.bounds.result extent.rings c.around.ensures.other
    (subst (λ (e : ExtentValue). RingsIn c.bounds.result e.rings) same c.bounds.ensures)

pub returns-in-None-clause-there : goal.returns-in-None-clause-there
returns-in-None-clause-there c = λ extent there.
    let within = slice_get_within c.args.extents.now c.args.place extent there in
    absurd (omega (arith, within, c.in-None.ensures.lookup))

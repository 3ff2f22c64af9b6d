use Rattle.std.proofs.Common.{◌≡◌, Some, length, refl, sym, ◌∙◌, subst}
use Rattle.std.specs.Prelude.{slice_get}
use Rattle.std.proofs.lemmas.Option.{slice_get_read}
use Rattle.depth_values.specs.Asked.{AreAsked}
use Rattle.depth_values.proofs.Asking.{asked_apart, asked_held}
use Rattle.depth_values.proofs.asked.push_extent.Goals as goal

pub returns-else-holds : goal.returns-else-holds
returns-else-holds c =
    let extents = c.args.extents.now in
    let found = c.in-Some.ensures.lookup in
    let here : slice_get extents c.args.place ≡ Some c.in-Some.extent.now =
    slice_get_read extents (length extents) c.args.place c.in-Some.extent.now refl found.3.0 found.1 in
    asked_apart c.args.points.now extents c.args.place c.in-Some.extent.now c.args.held.now.items here (sym c.in_ok-holds.ensures ∙ c.if-holds.false)

pub returns-in_ok-push_places : goal.returns-in_ok-push_places
returns-in_ok-push_places c =
    let extents = c.args.extents.now in
    let found = c.in-Some.ensures.lookup in
    let here : slice_get extents c.args.place ≡ Some c.in-Some.extent.now =
    slice_get_read extents (length extents) c.args.place c.in-Some.extent.now refl found.3.0 found.1 in
    let held = c.args.held.now.items in
    subst (AreAsked c.args.points.now extents (λ asked. asked ≡ c.args.place) held)
    (sym c.in_ok-push_places.ensures)
    (asked_held c.args.points.now extents c.args.place c.in-Some.extent.now held here (sym c.in_ok-holds.ensures ∙ c.if-holds.true))

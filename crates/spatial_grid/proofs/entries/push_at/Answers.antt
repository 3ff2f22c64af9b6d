use Rattle.std.proofs.Common.{◌≡◌, Some, length, refl, sym, ap, ◌∙◌, w64, rules, arith}
use mir.Val.{SFits}
use Rattle.std.specs.List.{slice_get}
use Rattle.std.proofs.lemmas.Int.{to_z-of_z}
use Rattle.std.proofs.lemmas.Option.{slice_get_read}
use Rattle.common_lemmas.proofs.Choices.{some_is}
use Rattle.chart_model.specs.declared.name.Name.{Name}
use Rattle.plane_bounds.specs.declared.bounds.Bounds.{Bounds}
use Rattle.spatial_grid.specs.Buckets.{index_on}
use Rattle.spatial_grid.proofs.Standing.{entered_same}
use Rattle.spatial_grid.proofs.entries.push_at.Goals as goal

pub returns-clause-entered : goal.returns-clause-entered
returns-clause-entered c = λ other e.
    let boxes = c.args.boxes.now in
    let boxed = c.in-Some.boxed.now in
    let found = c.in-Some.ensures.lookup in
    let here : slice_get boxes c.args.place ≡ Some boxed = slice_get_read boxes (length boxes) c.args.place boxed refl found.3.0 found.1 in
    let same : boxed ≡ other = some_is boxed other (sym here ∙ e) in
    let number : c.in-Ok.number ≡ c.args.place = omega arith in
    let x0 : SFits w64 boxed.1.x0 = search rules in
    let y0 : SFits w64 boxed.1.y0 = search rules in
    let x1 : SFits w64 boxed.1.x1 = search rules in
    let y1 : SFits w64 boxed.1.y1 = search rules in
    let south = simp to_z-of_z at c.span-rows.ensures.first in
    let north = simp to_z-of_z at c.span-rows.ensures.last in
    let west = simp to_z-of_z at c.span-columns.ensures.first in
    let east = simp to_z-of_z at c.span-columns.ensures.last in
    entered_same c.push_box.new.entries.items _ _ _ _ _ _ _ _ _ _ number
    (south ∙ ap (λ (b : Name × Bounds). index_on c.args.rows b.1.y0) same)
    (north ∙ ap (λ (b : Name × Bounds). index_on c.args.rows b.1.y1) same)
    (west ∙ ap (λ (b : Name × Bounds). index_on c.args.columns b.1.x0) same)
    (east ∙ ap (λ (b : Name × Bounds). index_on c.args.columns b.1.x1) same)
    c.in_ok-push_box.ensures.entered

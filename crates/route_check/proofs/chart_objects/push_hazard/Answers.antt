use Rattle.std.proofs.Common.{◌≡◌, Bool, true, false, cond, List, [], ◌++◌, Option, int_le, refl, sym, ap, ◌∙◌}
use Rattle.std.proofs.lemmas.List.{append-nil}
use Rattle.area_rings.specs.declared.shape.Shape.{Shape}
use Rattle.depth_values.specs.Hazard.{hazard_depth}
use Rattle.route_check.specs.Object.{ObjectValue}
use Rattle.route_check.specs.Danger.{whole_of}
use Rattle.route_check.proofs.chart_objects.push_hazard.Goals as goal

-- neither branch adds an object
none : (shallow : Bool) → ◌≡◌ {A = List ObjectValue} [] (cond shallow [] [])
none true = refl
none false = refl

pub returns-in_default-clause-objects : goal.returns-in_default-clause-objects
returns-in_default-clause-objects c =
    let from = c.args.from.now in
    let objects = c.args.objects.now.items in
    let shallow = int_le (hazard_depth from.cell.now c.args.feature.now) from.settings.now.safety_contour in
    sym (append-nil objects)
    ∙ ap (λ (l : List ObjectValue). objects ++ l) (none shallow)
    ∙ ap (λ (o : Option Shape). objects ++ cond shallow (whole_of from.key c.args.rcid o) []) (sym c.in_default.is ∙ c.in_ok-shape.ensures)

use Rattle.std.proofs.Common.{w64, rules, sym, subst}
use mir.Val.{SFits}
use Rattle.std.proofs.lemmas.Int.{to_z-of_z}
use Rattle.plane_bounds.specs.declared.bounds.Bounds.{Bounds}
use Rattle.plane_bounds.specs.Bounds.{Holds}
use Rattle.plane_bounds.proofs.Widened.{holds_one, holds_other, holds_both}
use Rattle.plane_bounds.proofs.bounds.Bounds.around.Goals as goal

pub returns-clause-value : goal.returns-clause-value
returns-clause-value c =
    let x0 : SFits w64 c.args.self.x0 = search rules in
    let y0 : SFits w64 c.args.self.y0 = search rules in
    let x1 : SFits w64 c.args.self.x1 = search rules in
    let y1 : SFits w64 c.args.self.y1 = search rules in
    let u0 : SFits w64 c.args.other.x0 = search rules in
    let v0 : SFits w64 c.args.other.y0 = search rules in
    let u1 : SFits w64 c.args.other.x1 = search rules in
    let v1 : SFits w64 c.args.other.y1 = search rules in
    let rx0 : SFits w64 c.min.result = search rules in
    let ry0 : SFits w64 c.min-2.result = search rules in
    let rx1 : SFits w64 c.max.result = search rules in
    let ry1 : SFits w64 c.max-2.result = search rules in
    let west = simp to_z-of_z at c.min.ensures.value in
    let south = simp to_z-of_z at c.min-2.ensures.value in
    let east = simp to_z-of_z at c.max.ensures.value in
    let north = simp to_z-of_z at c.max-2.ensures.value in
    simp to_z-of_z (λ i. record { x0 = west i; y0 = south i; x1 = east i; y1 = north i })

pub returns-clause-one : goal.returns-clause-one
returns-clause-one c =
    subst (λ (b : Bounds). Holds b c.args.self) (sym (returns-clause-value c)) (holds_one c.args.self c.args.other)

pub returns-clause-other : goal.returns-clause-other
returns-clause-other c =
    subst (λ (b : Bounds). Holds b c.args.other) (sym (returns-clause-value c)) (holds_other c.args.self c.args.other)

pub returns-clause-least : goal.returns-clause-least
returns-clause-least c = λ grown h k.
    subst (λ (b : Bounds). Holds grown b) (sym (returns-clause-value c))
    (holds_both c.args.self c.args.other grown h k)

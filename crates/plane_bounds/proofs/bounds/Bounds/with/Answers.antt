use Rattle.std.proofs.Common.{w32, w64, rules, sym, subst}
use mir.Val.{SFits}
use Rattle.std.proofs.lemmas.Int.{to_z-of_z}
use Rattle.plane_bounds.specs.declared.bounds.Bounds.{Bounds}
use Rattle.plane_bounds.specs.Bounds.{Holds, IsIn}
use Rattle.plane_bounds.proofs.Widened.{holds_old, holds_point, held_by}
use Rattle.plane_bounds.proofs.bounds.Bounds.with.Goals as goal

pub returns-clause-value : goal.returns-clause-value
returns-clause-value c =
    let x : SFits w32 c.args.p.x = search rules in
    let y : SFits w32 c.args.p.y = search rules in
    let x0 : SFits w64 c.args.self.x0 = search rules in
    let y0 : SFits w64 c.args.self.y0 = search rules in
    let x1 : SFits w64 c.args.self.x1 = search rules in
    let y1 : SFits w64 c.args.self.y1 = search rules in
    let rx0 : SFits w64 c.lesser.result = search rules in
    let ry0 : SFits w64 c.lesser-2.result = search rules in
    let rx1 : SFits w64 c.greater.result = search rules in
    let ry1 : SFits w64 c.greater-2.result = search rules in
    let west = simp to_z-of_z at c.lesser.ensures in
    let south = simp to_z-of_z at c.lesser-2.ensures in
    let east = simp to_z-of_z at c.greater.ensures in
    let north = simp to_z-of_z at c.greater-2.ensures in
    simp to_z-of_z (λ i. record { x0 = west i; y0 = south i; x1 = east i; y1 = north i })

pub returns-clause-kept : goal.returns-clause-kept
returns-clause-kept c =
    subst (λ (b : Bounds). Holds b c.args.self) (sym (returns-clause-value c)) (holds_old c.args.self c.args.p)

pub returns-clause-there : goal.returns-clause-there
returns-clause-there c =
    subst (λ (b : Bounds). IsIn b c.args.p) (sym (returns-clause-value c)) (holds_point c.args.self c.args.p)

pub returns-clause-least : goal.returns-clause-least
returns-clause-least c = λ other h q.
    subst (λ (b : Bounds). Holds other b) (sym (returns-clause-value c)) (held_by c.args.self c.args.p other h q)

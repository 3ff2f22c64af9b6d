use Rattle.std.proofs.Common.{w64, rules, sym, ◌∙◌}
use mir.Val.{SFits}
use Rattle.std.proofs.lemmas.Int.{to_z-of_z}
use Rattle.std.proofs.lemmas.Bool.{false≢true}
use Rattle.plane_bounds.proofs.Meeting.{meets_where, across_where, along_where}
use Rattle.plane_bounds.proofs.bounds.Bounds.meets.Goals as goal

pub returns-then-have_common : goal.returns-then-have_common
returns-then-have_common c =
    let a0 : SFits w64 c.args.self.x0 = search rules in
    let a1 : SFits w64 c.args.self.x1 = search rules in
    let b0 : SFits w64 c.args.other.x0 = search rules in
    let b1 : SFits w64 c.args.other.x1 = search rules in
    let c0 : SFits w64 c.args.self.y0 = search rules in
    let c1 : SFits w64 c.args.self.y1 = search rules in
    let d0 : SFits w64 c.args.other.y0 = search rules in
    let d1 : SFits w64 c.args.other.y1 = search rules in
    let across = simp to_z-of_z at (c.have_common.ensures.0 c.if-have_common.true) in
    let along = simp to_z-of_z at c.have_common-then-have_common.ensures in (
      λ t. meets_where c.args.self c.args.other across (along.0 t),
      λ m. along.1 (along_where c.args.self c.args.other m),
    )

pub returns-else-have_common : goal.returns-else-have_common
returns-else-have_common c =
    let a0 : SFits w64 c.args.self.x0 = search rules in
    let a1 : SFits w64 c.args.self.x1 = search rules in
    let b0 : SFits w64 c.args.other.x0 = search rules in
    let b1 : SFits w64 c.args.other.x1 = search rules in
    let across = simp to_z-of_z at c.have_common.ensures in (
      λ t. absurd (false≢true (sym c.if-have_common.false ∙ t)),
      λ m. across.1 (across_where c.args.self c.args.other m),
    )

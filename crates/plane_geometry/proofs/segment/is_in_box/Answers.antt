use Rattle.std.proofs.Common.{w32, rules}
use mir.Val.{SFits}
use Rattle.std.proofs.lemmas.Int.{to_z-of_z}
use Rattle.plane_geometry.proofs.segment.is_in_box.Goals as goal

pub returns-then-is_between : goal.returns-then-is_between
returns-then-is_between c =
    let px : SFits w32 c.args.p.x = search rules in
    let py : SFits w32 c.args.p.y = search rules in
    let ax : SFits w32 c.args.a.x = search rules in
    let ay : SFits w32 c.args.a.y = search rules in
    let bx : SFits w32 c.args.b.x = search rules in
    let by : SFits w32 c.args.b.y = search rules in
    let across = simp to_z-of_z at (c.is_between.ensures.0 c.if-is_between.true) in
    let along = simp to_z-of_z at c.is_between-then-is_between.ensures in
    (λ h. record { across = across; along = along.0 h }, λ box. along.1 box.along)

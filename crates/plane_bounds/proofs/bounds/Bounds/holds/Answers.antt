use Rattle.std.proofs.Common.{w32, w64, rules}
use mir.Val.{SFits}
use Rattle.std.proofs.lemmas.Int.{to_z-of_z}
use Rattle.plane_bounds.proofs.bounds.Bounds.holds.Goals as goal

pub returns-then-is_from_to : goal.returns-then-is_from_to
returns-then-is_from_to c =
    let px : SFits w32 c.args.p.x = search rules in
    let py : SFits w32 c.args.p.y = search rules in
    let west : SFits w64 c.args.self.x0 = search rules in
    let east : SFits w64 c.args.self.x1 = search rules in
    let south : SFits w64 c.args.self.y0 = search rules in
    let north : SFits w64 c.args.self.y1 = search rules in
    let across = simp to_z-of_z at (c.is_from_to.ensures.0 c.if-is_from_to.true) in
    let along = simp to_z-of_z at c.is_from_to-then-is_from_to.ensures in (
      λ h. record { west = across.0; east = across.1; south = (along.0 h).0; north = (along.0 h).1 },
      λ q. along.1 (q.south, q.north),
    )

use Rattle.std.proofs.Common.{w64}
use mir.Val.{SFits}
use Rattle.std.proofs.lemmas.Int.{to_z-of_z}
use Rattle.plane_bounds.proofs.bounds.have_common.Goals as goal

pub returns-then-are_in_order : goal.returns-then-are_in_order
returns-then-are_in_order c =
    let a : SFits w64 c.args.low = c.ranges.low in
    let b : SFits w64 c.args.high = c.ranges.high in
    let d : SFits w64 c.args.from = c.ranges.from in
    let e : SFits w64 c.args.to = c.ranges.to in
    let some = simp to_z-of_z at (c.are_in_order.ensures.0 c.if-are_in_order.true) in
    let ends = simp to_z-of_z at c.are_in_order-then-are_in_order.ensures in (
      λ h. record { some = some.0; others = some.1; before = (ends.0 h).0; behind = (ends.0 h).1 },
      λ q. ends.1 (q.before, q.behind),
    )

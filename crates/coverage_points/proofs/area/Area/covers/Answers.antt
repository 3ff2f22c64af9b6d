-- Where the box doesn't hold an end of the leg the rings don't cover it.
use Rattle.std.proofs.Common.{sym, ap, ◌∙◌}
use Rattle.coverage_points.specs.Cover.{is_covered}
use Rattle.coverage_points.proofs.Ends.{far_first, far_last, not_so}
use Rattle.coverage_points.proofs.area.Area.covers.Goals as goal
use Rattle.coverage_points.proofs.area.Area.covers.Goals.{then-holds, else-holds}

pub returns-else-holds-2 : goal.returns-else-holds-2
returns-else-holds-2 c =
    c.if-holds-2.false
    ∙ elim c.if-holds.branch [
      | then-holds w ↦
          far_last c.args.leg.now c.self.inside.rings c.self.inside.bounds c.self.invariant (not_so w.holds-then-holds.ensures (sym w.value-is ∙ c.if-holds-2.false))
      | else-holds w ↦
          far_first c.args.leg.now c.self.inside.rings c.self.inside.bounds c.self.invariant (not_so c.holds.ensures w.if-holds.false)
    ]
    ∙ ap (is_covered c.args.leg.now) c.self.view_is

use Rattle.std.proofs.Common.{sym, subst}
use Rattle.ring_strips.specs.Strips.{IsStrip}
use Rattle.ring_strips.proofs.Levels.{strips_next}
use Rattle.ring_strips.proofs.cut.halved.Goals as goal

pub loop-strip-preserved : goal.loop-strip-preserved
loop-strip-preserved c = λ rings all.
    let whole = subst (IsStrip rings) (sym c.strip-item.is) (all c.loop-strip.strip-index _ c.loop-strip-test.true) in
    strips_next rings c.loop-strip.halves.items c.push.new.self.items c.push-in-loop-strip.new.self.items c.in_ok-south.field-0 c.in_ok-north.field-0
    c.in_ok-push.ensures.items c.in_ok-push-2.ensures.items
    (c.loop-strip.invariant rings all) (c.in_ok-south.ensures rings whole) (c.in_ok-north.ensures rings whole)

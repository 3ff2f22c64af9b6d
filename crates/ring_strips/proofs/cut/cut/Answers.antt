use Rattle.std.proofs.Common.{sym, subst}
use Rattle.ring_strips.specs.Strips.{AreStrips}
use Rattle.ring_strips.proofs.cut.cut.Goals as goal

pub loop-round-preserved : goal.loop-round-preserved
loop-round-preserved c = λ rings h.
    c.in_ok-each.ensures rings (subst (AreStrips rings) (sym c.as_slice-in-loop-round.ensures.value) (c.loop-round.invariant rings h))

pub returns : goal.returns
returns c = λ rings h. subst (AreStrips rings) (sym c.new.ensures) (c.loop-round.invariant rings h)

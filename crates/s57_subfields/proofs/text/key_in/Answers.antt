use Rattle.std.proofs.Common.{arith, rules}
use Rattle.s57_subfields.proofs.Dots.{key_in-dot, key_in-whole}
use Rattle.s57_subfields.proofs.text.key_in.Goals as goal

pub returns-then-last-eq46 : goal.returns-then-last-eq46
returns-then-last-eq46 c =
    let (tail, split, none) = c.loop-front.invariant in
    key_in-dot c.args.name.now c.loop-front.front.now tail split (omega arith) (search rules) none

pub returns : goal.returns
returns c =
    let (tail, split, none) = c.loop-front.invariant in
    key_in-whole c.args.name.now c.loop-front.front.now tail split (omega arith) none

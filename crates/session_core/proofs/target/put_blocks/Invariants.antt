-- with those that are left in it, the target is what it is to be
use Rattle.std.proofs.Common.{◌≡◌}
use Rattle.std.specs.Vec.Iter.{into_iter_items}
use Rattle.session_core.specs.Panels.{under_key, with_all}
use Rattle.session_core.proofs.target.put_blocks.Given as goal

abbrev pub invariant-loop-named : goal.invariant-loop-named
invariant-loop-named l =
    with_all l.target (under_key l.key (into_iter_items l.named-iterator)) ≡ with_all l.fn.target
    (under_key l.key l.fn.blocks.items)

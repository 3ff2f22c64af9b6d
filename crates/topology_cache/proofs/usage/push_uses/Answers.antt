use Rattle.topology_cache.proofs.UseLists.{push-more}
use Rattle.topology_cache.proofs.usage.push_uses.Goals as goal

pub loop-pointer-preserved : goal.loop-pointer-preserved
loop-pointer-preserved c =
    push-more c.args.uses.now.items c.args.user c.args.pointers.now c.loop-pointer.uses.items _
    c.loop-pointer.pointer-index _
    c.loop-pointer-test.true c.loop-pointer.invariant c.in_ok-push.ensures.items

use Rattle.topology_cache.proofs.Uses.{take-more}
use Rattle.topology_cache.proofs.users.Users.remove_all.Goals as goal

pub loop-pointer-preserved : goal.loop-pointer-preserved
loop-pointer-preserved c =
    take-more c.args.self.now c.args.user c.args.pointers.now c.loop-pointer.self c.remove.new.self
    c.loop-pointer.pointer-index _
    c.loop-pointer-test.true c.loop-pointer.invariant c.remove.ensures

use Rattle.topology_cache.proofs.Uses.{put-more}
use Rattle.topology_cache.proofs.users.Users.insert_all.Goals as goal

pub loop-pointer-preserved : goal.loop-pointer-preserved
loop-pointer-preserved c =
    put-more c.args.self.now c.args.user c.args.pointers.now c.loop-pointer.self c.insert.new.self
    c.loop-pointer.pointer-index _
    c.loop-pointer-test.true c.loop-pointer.invariant c.in_ok-insert.ensures

use Rattle.topology_cache.proofs.Uses.{ArePut}
use Rattle.topology_cache.proofs.users.Users.insert_all.Given as goal

abbrev pub invariant-loop-pointer : goal.invariant-loop-pointer
invariant-loop-pointer l = ArePut l.initial.self l.user l.pointers l.self l.pointer-index

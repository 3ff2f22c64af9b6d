use Rattle.topology_cache.proofs.Uses.{AreTaken}
use Rattle.topology_cache.proofs.users.Users.remove_all.Given as goal

abbrev pub invariant-loop-pointer : goal.invariant-loop-pointer
invariant-loop-pointer l = AreTaken l.initial.self l.user l.pointers l.self l.pointer-index

use Rattle.topology_cache.proofs.UseLists.{ArePushed}
use Rattle.topology_cache.proofs.usage.push_uses.Given as goal

abbrev pub invariant-loop-pointer : goal.invariant-loop-pointer
invariant-loop-pointer l = ArePushed l.initial.uses.items l.user l.pointers l.uses.items l.pointer-index

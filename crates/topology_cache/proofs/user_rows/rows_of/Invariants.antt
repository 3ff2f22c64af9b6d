use Rattle.topology_cache.proofs.UseLists.{AreAdded}
use Rattle.topology_cache.proofs.user_rows.rows_of.Given as goal

abbrev pub invariant-loop-one : goal.invariant-loop-one
invariant-loop-one l = AreAdded l.uses l.users l.one-index

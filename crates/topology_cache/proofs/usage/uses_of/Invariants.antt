use Rattle.std.proofs.Common.{◌≡◌, ◌+◌, length}
use Rattle.std.specs.FinMap as finite
use Rattle.topology_cache.specs.Sets.{is_use}
use Rattle.topology_cache.proofs.Walks.{Walked}
use Rattle.topology_cache.proofs.usage.uses_of.Given as goal

abbrev pub invariant-loop-name : goal.invariant-loop-name
invariant-loop-name g l = record {
  walked : Walked l.cell (is_use l.uses.items) l.name-iterator;
  counted : l.steps + length l.name-iterator ≡ l.initial.steps + finite.len l.cell.features;
}

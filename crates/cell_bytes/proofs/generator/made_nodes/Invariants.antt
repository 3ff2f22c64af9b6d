use Rattle.std.proofs.Common.{◌≡◌}
use Rattle.cell_bytes.specs.Generator.{nodes_to}
use Rattle.cell_bytes.proofs.generator.made_nodes.Given as goal

abbrev pub invariant-loop-before : goal.invariant-loop-before
invariant-loop-before l = l.vectors ≡ nodes_to l.before

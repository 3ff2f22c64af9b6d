use Rattle.std.proofs.Common.{◌≡◌}
use Rattle.cell_bytes.specs.Generator.{edges_to}
use Rattle.cell_bytes.proofs.generator.add_edges.Given as goal

abbrev pub invariant-loop-before : goal.invariant-loop-before
invariant-loop-before l = l.vectors ≡ edges_to l.initial.vectors l.before

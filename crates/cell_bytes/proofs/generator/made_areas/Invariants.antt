use Rattle.std.proofs.Common.{◌≡◌}
use Rattle.cell_bytes.specs.Generator.{areas_to}
use Rattle.cell_bytes.proofs.generator.made_areas.Given as goal

abbrev pub invariant-loop-before : goal.invariant-loop-before
invariant-loop-before l = l.features ≡ areas_to l.before

-- the areas so far that the update modifies are counted
use Rattle.std.proofs.Common.{◌≡◌, ◌≤◌}
use Rattle.cell_bytes.proofs.Modified.{modified_to}
use Rattle.cell_bytes.proofs.update.modified_count.Given as goal

abbrev pub invariant-loop-before : goal.invariant-loop-before
invariant-loop-before l = record {
  counted : l.count ≡ modified_to l.update l.before;
  most : l.count ≤ l.before;
}

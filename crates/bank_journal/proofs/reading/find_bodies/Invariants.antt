use Rattle.std.proofs.Common.{◌≡◌, ◌+◌, ◌-◌, ◌<◌, length, map, drop}
use Rattle.std.specs.List.{All, sum_by}
use Rattle.bank_journal.specs.Parts.{IsWithin, part_of}
use Rattle.bank_journal.specs.Reading.{behind_bodies, bodies_in}
use Rattle.bank_journal.proofs.reading.find_bodies.Given as goal

abbrev pub invariant-loop-at : goal.invariant-loop-at
invariant-loop-at l = record {
  inside : l.at < length l.bytes;
  within : All (IsWithin (length l.bytes)) l.bodies.items;
  place : l.at ≡ l.first + sum_by (λ body. 5 + length body) (map (part_of l.bytes) l.bodies.items);
  joined : bodies_in 0 (drop l.first l.bytes)
      ≡ behind_bodies (map (part_of l.bytes) l.bodies.items) (bodies_in 0 (drop l.at l.bytes));
}

abbrev pub decreases-loop-at : goal.decreases-loop-at
decreases-loop-at l = length l.bytes - l.at

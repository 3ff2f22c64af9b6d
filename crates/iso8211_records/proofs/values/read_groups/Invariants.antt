use Rattle.std.proofs.Common.{◌≡◌, ◌≤◌, length}
use Rattle.iso8211_records.specs.Values.{before_all, groups_at}
use Rattle.iso8211_records.proofs.values.read_groups.Given as goal

abbrev pub invariant-loop-rest : goal.invariant-loop-rest
invariant-loop-rest l = record {
  read : before_all l.values.items (groups_at (length l.rest) l.group l.rest) ≡ before_all l.initial.values.items (groups_at (length l.bytes) l.group l.bytes);
  grown : length l.initial.values.items ≤ length l.values.items;
}

abbrev pub decreases-loop-rest : goal.decreases-loop-rest
decreases-loop-rest l = length l.rest

use Rattle.std.proofs.Common.{◌≡◌, ◌≤◌, drop, length}
use Rattle.iso8211_records.specs.Values.{before, values_at}
use Rattle.iso8211_records.proofs.values.read_each.Given as goal

abbrev pub invariant-loop-format : goal.invariant-loop-format
invariant-loop-format l = record {
  read : before l.values.items (values_at (drop l.format-index l.formats) l.rest) ≡ before l.initial.values.items (values_at l.formats l.bytes);
  grown : length l.initial.values.items ≤ length l.values.items;
}

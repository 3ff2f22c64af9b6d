use Rattle.std.proofs.Common.{◌≡◌, ◌+◌, ◌*◌, drop}
use Rattle.iso8211_leader.specs.Leader.{frame}
use Rattle.iso8211_leader.specs.Entry.{entry_size}
use Rattle.iso8211_records.specs.Reading.{place_without, is_inside}
use Rattle.iso8211_records.proofs.frame.check_spans.Given as goal

abbrev pub invariant-loop-entry : goal.invariant-loop-entry
invariant-loop-entry l = record {
  place : l.place ≡ 24 + entry_size (frame l.leader) * l.entry-index;
  checked : place_without (is_inside (frame l.leader)) (entry_size (frame l.leader)) l.place (drop l.entry-index l.entries) ≡ place_without (is_inside (frame l.leader)) (entry_size (frame l.leader)) 24 l.entries;
}

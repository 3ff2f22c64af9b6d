use Rattle.std.proofs.Common.{◌≡◌, ◌≤◌, ◌-◌, ◌+◌, ◌*◌, length}
use Rattle.iso8211_leader.specs.Leader.{frame}
use Rattle.iso8211_leader.specs.Entry.{entry_size}
use Rattle.iso8211_records.specs.Reading.{entries_at, directory_at}
use Rattle.iso8211_records.proofs.Directory.{behind}
use Rattle.iso8211_records.proofs.frame.read_directory.Given as goal

abbrev pub invariant-loop-place : goal.invariant-loop-place
invariant-loop-place l = record {
  within : l.place ≤ l.closing;
  place : l.place ≡ 24 + entry_size (frame l.leader) * length l.entries.items;
  read : behind l.entries.items (entries_at l.leader.base l.at (frame l.leader) l.bytes l.place) ≡ directory_at l.at (frame l.leader) l.bytes;
}

abbrev pub decreases-loop-place : goal.decreases-loop-place
decreases-loop-place l = l.closing - l.place

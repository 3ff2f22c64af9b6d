use Rattle.std.proofs.Common.{◌≡◌, ℕ, List, [], drop}
use Rattle.iso8211_leader.specs.Leader.{frame}
use Rattle.iso8211_records.specs.Record.{describing_entries}
use Rattle.iso8211_records.specs.Reading.{descriptors_in}
use Rattle.iso8211_records.proofs.Directory.{behind}
use Rattle.iso8211_records.proofs.Described.{HaveTags}
use Rattle.iso8211_records.proofs.descriptive.read_descriptors.Given as goal

abbrev pub invariant-loop-entry : goal.invariant-loop-entry
invariant-loop-entry l = (seen : List (List ℕ)) × HaveTags l.descriptors seen
    × (behind l.descriptors (descriptors_in (frame l.leader) l.bytes (describing_entries l.tags seen (drop l.entry-index l.entries))) ≡ descriptors_in (frame l.leader) l.bytes (describing_entries l.tags [] l.entries))

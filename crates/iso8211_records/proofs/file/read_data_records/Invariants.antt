use Rattle.std.proofs.Common.{◌≡◌, ◌+◌, [], length}
use Rattle.iso8211_records.specs.Reading.{data_records_at, come_to}
use Rattle.iso8211_records.proofs.Directory.{behind}
use Rattle.iso8211_records.proofs.file.read_data_records.Given as goal

abbrev pub invariant-loop-rest : goal.invariant-loop-rest
invariant-loop-rest g l = record {
  ended : (l.draft.begun ≡ []) × (l.draft.values ≡ []);
  place : l.place + length l.rest ≡ l.at + length l.bytes;
  read : behind l.draft.records (data_records_at (length l.rest) l.wanted.tags l.wanted.descriptors (length l.draft.records + 1) l.place l.rest) ≡ data_records_at (length l.bytes) l.wanted.tags l.wanted.descriptors 1 l.at l.bytes;
  steps : l.steps + come_to (length l.rest) l.wanted.tags l.wanted.descriptors (length l.draft.records + 1) l.place l.rest ≡ l.initial.steps + come_to (length l.bytes) l.wanted.tags l.wanted.descriptors 1 l.at l.bytes;
}

abbrev pub decreases-loop-rest : goal.decreases-loop-rest
decreases-loop-rest g l = length l.rest

use Rattle.std.proofs.Common.{◌≡◌, ◌+◌, [], drop}
use Rattle.iso8211_leader.specs.Leader.{frame}
use Rattle.iso8211_records.specs.Budget.{listed_bytes}
use Rattle.iso8211_records.specs.Kinds.{tags_of}
use Rattle.iso8211_records.specs.Reading.{fields_of}
use Rattle.iso8211_records.proofs.Directory.{behind}
use Rattle.iso8211_records.proofs.data.read_fields.Given as goal

abbrev pub invariant-loop-entry : goal.invariant-loop-entry
invariant-loop-entry l = record {
  records : l.draft.records ≡ l.initial.draft.records;
  values : l.draft.values ≡ [];
  read : behind l.draft.begun (fields_of (tags_of l.descriptors) l.descriptors l.number (frame l.leader) l.bytes (drop l.entry-index l.entries)) ≡ fields_of (tags_of l.descriptors) l.descriptors l.number (frame l.leader) l.bytes l.entries;
  taken : l.budget + listed_bytes (tags_of l.descriptors) l.entries ≡ l.initial.budget + listed_bytes (tags_of l.descriptors) (drop l.entry-index l.entries);
}

use Rattle.std.proofs.Common.{◌≡◌, drop, not}
use Rattle.iso8211_records.specs.Tags.{is_listed}
use Rattle.iso8211_records.specs.Reading.{first_without}
use Rattle.iso8211_leader.specs.declared.entry.Entry.{Entry}
use Rattle.iso8211_records.proofs.wanted.check_without.Given as goal

abbrev pub invariant-loop-entry : goal.invariant-loop-entry
invariant-loop-entry l = first_without (λ (entry : Entry). not (is_listed l.tags entry.tag)) (drop l.entry-index l.entries) ≡ first_without (λ (entry : Entry). not (is_listed l.tags entry.tag)) l.entries

use Rattle.std.proofs.Common.{◌≡◌, map, take}
use Rattle.iso8211_records.specs.Draft.{part}
use Rattle.iso8211_records.proofs.draft.records_of.Given as goal

abbrev pub invariant-loop-extent : goal.invariant-loop-extent
invariant-loop-extent l = l.records.items ≡ map (part l.fields.value.items) (take l.extent-index l.extents)

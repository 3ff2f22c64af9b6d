use Rattle.std.proofs.Common.{◌≡◌, take}
use Rattle.iso8211_records.specs.Draft.{fields_in}
use Rattle.iso8211_records.proofs.draft.fields_of.Given as goal

abbrev pub invariant-loop-tag : goal.invariant-loop-tag
invariant-loop-tag l = l.fields.items ≡ fields_in (take l.tag-index l.extents) l.values.value.items

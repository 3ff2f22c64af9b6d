use Rattle.std.proofs.Common.{◌≡◌, ◌++◌, drop}
use Rattle.iso8211_records.specs.Reading.{tags_without_descriptor}
use Rattle.iso8211_records.proofs.wanted.undescribed_tags.Given as goal

abbrev pub invariant-loop-tag : goal.invariant-loop-tag
invariant-loop-tag l = l.found.items ++ tags_without_descriptor (drop l.tag-index l.tags) l.descriptors ≡ tags_without_descriptor l.tags l.descriptors

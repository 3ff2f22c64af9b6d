use Rattle.std.proofs.Common.{◌≡◌, length, is_some}
use Rattle.iso8211_formats.specs.Reading.{plain_labels}
use Rattle.iso8211_formats.proofs.labels.is_plain.Given as goal

abbrev pub invariant-loop-after : goal.invariant-loop-after
invariant-loop-after l = is_some (plain_labels l.rest) ≡ is_some (plain_labels l.text)

abbrev pub decreases-loop-after : goal.decreases-loop-after
decreases-loop-after l = length l.rest

use Rattle.std.proofs.Common.{◌≡◌, length, eqb}
use Rattle.std.specs.List.{slice_split}
use Rattle.iso8211_formats.specs.Reading.{items_of, at_most, behind}
use Rattle.iso8211_formats.proofs.format_controls.read_items.Given as goal

abbrev pub invariant-loop-item : goal.invariant-loop-item
invariant-loop-item l =
    at_most 64 (behind l.formats.items (items_of (slice_split (λ b. eqb b 44) l.rest)))
    ≡ at_most 64 (items_of (slice_split (λ b. eqb b 44) l.text))

abbrev pub decreases-loop-item : goal.decreases-loop-item
decreases-loop-item l = length l.rest

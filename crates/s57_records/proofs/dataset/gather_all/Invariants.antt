use Rattle.std.proofs.Common.{◌≡◌, ◌+◌, length}
use Rattle.iso8211_records.specs.Kinds.{layout_at}
use Rattle.s57_records.specs.Gathering.{gather, nothing_gathered}
use Rattle.s57_records.specs.LayoutReadings.{all_subfields}
use Rattle.s57_records.proofs.dataset.gather_all.Given as goal

abbrev pub invariant-loop-first : goal.invariant-loop-first
invariant-loop-first l =
    (gather l.base (l.number + 1) (all_subfields (layout_at l.rows) (l.number + 1) l.rest) l.gathered ≡ gather l.fn.base 2 (all_subfields (layout_at l.fn.rows) 2 l.fn.records) nothing_gathered)
    × (l.number + length l.rest ≡ 1 + length l.fn.records)

abbrev pub decreases-loop-first : goal.decreases-loop-first
decreases-loop-first l = length l.rest

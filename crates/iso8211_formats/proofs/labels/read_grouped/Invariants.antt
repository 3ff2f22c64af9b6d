use Rattle.std.proofs.Common.{◌≡◌, ◌++◌, ◌+◌, ◌*◌, ◌≤◌, length, option_map}
use Rattle.iso8211_formats.specs.Reading.{grouped_labels}
use Rattle.iso8211_formats.proofs.labels.read_grouped.Given as goal

abbrev pub invariant-loop-group : goal.invariant-loop-group
invariant-loop-group l = record {
  same : option_map (λ found. (l.labels.items ++ found.0, found.1)) (grouped_labels l.place l.rest) ≡ grouped_labels 1 l.text;
  counted : length l.labels.items + 1 ≡ l.place;
  room : 5 * length l.labels.items + length l.rest ≤ 320;
}

abbrev pub decreases-loop-group : goal.decreases-loop-group
decreases-loop-group l = length l.rest

use Rattle.std.proofs.Common.{◌≡◌, ◌+◌, ◌*◌, ◌++◌, ◌≤◌, length, option_map, IsSome}
use Rattle.iso8211_formats.specs.Reading.{plain_labels}
use Rattle.iso8211_formats.proofs.labels.push_plain.Given as goal

abbrev pub invariant-loop-after : goal.invariant-loop-after
invariant-loop-after l = record {
  same : option_map (λ more. l.labels.items ++ more) (plain_labels l.rest) ≡ option_map (λ more. l.fn.labels.items ++ more) (plain_labels l.text);
  plain : IsSome (plain_labels l.rest);
  room : 5 * length l.labels.items + length l.rest ≤ 320;
}

abbrev pub decreases-loop-after : goal.decreases-loop-after
decreases-loop-after l = length l.rest

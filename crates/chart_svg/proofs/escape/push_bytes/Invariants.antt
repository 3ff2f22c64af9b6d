use Rattle.std.proofs.Common.{◌≡◌, ◌++◌, take}
use Rattle.std.specs.List.{flat_map}
use Rattle.chart_svg.specs.Escape.{escaped_byte}
use Rattle.chart_svg.proofs.escape.push_bytes.Given as goal

abbrev pub invariant-loop-byte : goal.invariant-loop-byte
invariant-loop-byte l = l.out ≡ l.initial.out ++ flat_map escaped_byte (take l.byte-index l.text)

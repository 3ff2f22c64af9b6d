use Rattle.std.proofs.Common.{◌≡◌, ◌++◌, replicate}
use Rattle.iso8211_formats.proofs.format_controls.push_repeated.Given as goal

abbrev pub invariant-loop : goal.invariant-loop
invariant-loop l = l.formats.items ≡ l.fn.formats.items ++ replicate l.counter l.format

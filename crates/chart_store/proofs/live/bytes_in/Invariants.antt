-- the bytes so far, and those of the cells that are left, are those of all
use Rattle.std.proofs.Common.{◌≡◌, ◌+◌}
use Rattle.chart_store.specs.Loaded.{live_bytes}
use Rattle.chart_store.proofs.Checkpoints.{entries_bytes}
use Rattle.chart_store.proofs.live.bytes_in.Given as goal

abbrev pub invariant-loop-here : goal.invariant-loop-here
invariant-loop-here l = l.sum + entries_bytes l.here-iterator ≡ live_bytes l.cells

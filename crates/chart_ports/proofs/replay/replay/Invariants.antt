use Rattle.std.proofs.Common.{◌≡◌, ◌≤◌, length}
use Rattle.chart_ports.specs.Filled.{files_through, kept_through}
use Rattle.chart_ports.specs.Log.{events_of, size_of}
use Rattle.chart_ports.specs.MemoryFiles.{files_in}
use Rattle.chart_ports.proofs.replay.replay.Given as goal

-- what is left of the log leads from here to where the whole leads
abbrev pub invariant-loop-log : goal.invariant-loop-log
invariant-loop-log l = (size_of l.log ≤ length l.bytes)
    × (files_through (files_in l.files) (events_of l.log l.bytes)
    ≡ files_through (files_in l.initial.files) (events_of l.initial.log l.initial.bytes))
    × (kept_through l.fill (files_in l.kept) (files_in l.files) (events_of l.log l.bytes)
    ≡ kept_through l.fill (files_in l.initial.kept) (files_in l.initial.files)
    (events_of l.initial.log l.initial.bytes))

abbrev pub decreases-loop-log : goal.decreases-loop-log
decreases-loop-log l = length l.log

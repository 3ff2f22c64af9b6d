use Rattle.std.proofs.Common.{◌≡◌, ◌+◌, take}
use Rattle.update_sequence.specs.Rebuilt.{rebuilt, data_records_of}
use Rattle.update_sequence.proofs.files.rebuild.Given as goal

-- the chart and the data records of the files so far
abbrev pub invariant-loop-file : goal.invariant-loop-file
invariant-loop-file g l = record {
  chart : l.chart ≡ rebuilt (take l.file-index l.files);
  steps : l.steps ≡ l.fn.steps + data_records_of (take l.file-index l.files);
}

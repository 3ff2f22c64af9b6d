-- the files so far are kept, and none of them has the number
use Rattle.std.proofs.Common.{◌≡◌, ◌+◌, ◌≤◌, false, take, IfSome}
use Rattle.std.specs.List.{AllByRecursion}
use Rattle.update_sequence.specs.Rebuilt.{data_records_of}
use Rattle.chart_store.specs.KeptFiles.{has_update}
use Rattle.chart_store.specs.Live.{IsLive}
use Rattle.chart_store.specs.Loaded.{files_of}
use Rattle.chart_store.proofs.rollback.kept_by.Given as goal

abbrev pub invariant-loop-file : goal.invariant-loop-file
invariant-loop-file g l = record {
  live : IfSome l.kept (IsLive l.key);
  files : files_of l.kept ≡ take l.file-index l.files;
  none : AllByRecursion (λ file. has_update l.number file ≡ false) (take l.file-index l.files);
  steps : l.steps ≤ l.fn.steps + data_records_of (take l.file-index l.files);
}

-- the bytes of the files up to the index
use Rattle.std.proofs.Common.{◌≡◌, take}
use Rattle.chart_store.specs.Loaded.{bytes_of}
use Rattle.chart_store.proofs.live.bytes_of.Given as goal

abbrev pub invariant-loop-file : goal.invariant-loop-file
invariant-loop-file l = l.sum ≡ bytes_of (take l.file-index l.files)

-- the files so far are on the disk, and all is as it was
use Rattle.std.proofs.Common.{◌≡◌, ℕ, ◌<◌, ◌≤◌}
use Rattle.std.specs.Prelude.{IsTrue}
use Rattle.chart_ports.specs.Disk.{LeavesNoMore, Only, SameFiles}
use Rattle.chart_ports.specs.Moments.{LeavesOnly}
use Rattle.bank_pair.specs.Pair.{LeavesNamed}
use Rattle.bank_pair.proofs.opening.sync_files.Given as goal

abbrev pub invariant-loop-file : goal.invariant-loop-file
invariant-loop-file g l = record {
  settled : IsTrue g.D.Desk.tells → (file : ℕ) → file < l.file
      → Only (g.D.Desk.contents l.desk file) (g.D.Desk.may_leave l.desk file);
  files : IsTrue g.D.Desk.tells → SameFiles (g.D.Desk.contents l.fn.desk) (g.D.Desk.contents l.desk);
  crash : IsTrue g.D.Desk.tells → LeavesNoMore (g.D.Desk.may_leave l.fn.desk) (g.D.Desk.may_leave l.desk);
  said : IsTrue g.D.Desk.tells → g.D.Desk.said l.desk ≡ g.D.Desk.said l.fn.desk;
  moments : IsTrue g.D.Desk.tells → LeavesOnly g.D.Desk.clock g.D.Desk.might l.fn.desk l.desk
      (LeavesNamed (g.D.Desk.contents l.fn.desk) (g.D.Desk.may_leave l.fn.desk) (g.D.Desk.said l.fn.desk));
  later : g.D.Desk.faults l.fn.desk ≤ g.D.Desk.faults l.desk;
}

-- the records so far are copied, and a closed gate ends the file
use Rattle.std.proofs.Common.{◌≡◌, ◌+◌, ◌≤◌, ℕ, List, [], ◌∷◌, ◌++◌, length, take}
use Rattle.std.specs.Prelude.{IsTrue}
use Rattle.std.specs.List.{sum_by}
use Rattle.chart_ports.specs.Disk.{LeavesNoMoreOfOthers, SameOthers}
use Rattle.chart_ports.specs.Moments.{LeavesOnly}
use Rattle.bank_pair.specs.Copying.{records_of}
use Rattle.bank_pair.specs.Pair.{AreFramed}
use Rattle.bank_pair.specs.Saving.{LeavesAnything}
use Rattle.bank_pair.proofs.copying.copy_records.Given as goal

abbrev pub invariant-loop-framed : goal.invariant-loop-framed
invariant-loop-framed g l = record {
  place : l.gate ≡ l.end + sum_by (λ frame. length frame) (take l.framed-index l.frames);
  ends : IsTrue g.D.Desk.tells → length (g.D.Desk.contents l.desk l.file) ≡ l.gate + 1;
  copied : IsTrue g.D.Desk.tells → (bodies : List (List ℕ)) → AreFramed l.frames bodies
      → g.D.Desk.contents l.desk l.file
      ≡ g.D.Desk.contents l.fn.desk l.file ++ (records_of (take l.framed-index bodies) ++ 0 ∷ []);
  others : IsTrue g.D.Desk.tells → SameOthers l.file (g.D.Desk.contents l.fn.desk) (g.D.Desk.contents l.desk);
  crash_others : IsTrue g.D.Desk.tells
      → LeavesNoMoreOfOthers l.file (g.D.Desk.may_leave l.fn.desk) (g.D.Desk.may_leave l.desk);
  said : IsTrue g.D.Desk.tells → g.D.Desk.said l.desk ≡ g.D.Desk.said l.fn.desk;
  moments : IsTrue g.D.Desk.tells → LeavesOnly g.D.Desk.clock g.D.Desk.might l.fn.desk l.desk
      (LeavesAnything l.file (g.D.Desk.may_leave l.fn.desk) (g.D.Desk.said l.fn.desk));
  later : g.D.Desk.faults l.fn.desk ≤ g.D.Desk.faults l.desk;
}

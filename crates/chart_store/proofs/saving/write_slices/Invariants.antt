-- each slice so far was written and was not the last, and all else is as it was
use Rattle.std.proofs.Common.{◌≡◌, ◌≤◌}
use Rattle.std.specs.Prelude.{IsTrue}
use Rattle.chart_ports.specs.Moments.{LeavesOnly}
use Rattle.bank_journal.specs.Content.{Content}
use Rattle.bank_pair.specs.Handle.{value_of}
use Rattle.bank_pair.specs.Pair.{IsPairInStep, LeavesContent, Saves}
use Rattle.bank_pair.specs.Saving.{SaveValue}
use Rattle.chart_store.proofs.Saved.{AreWritten}
use Rattle.chart_store.proofs.saving.write_slices.Given as goal

abbrev pub invariant-loop : goal.invariant-loop
invariant-loop g l = record {
  in_step : IsTrue g.D.Desk.tells → (content : Content)
      → IsPairInStep (g.D.Desk.contents l.fn.desk) (g.D.Desk.may_leave l.fn.desk) (value_of l.fn.pair) content
      → IsPairInStep (g.D.Desk.contents l.desk) (g.D.Desk.may_leave l.desk) (value_of l.pair) content;
  written : (save : SaveValue) → Saves (value_of l.fn.pair) save → AreWritten (value_of l.pair) save l.counter;
  moments : IsTrue g.D.Desk.tells → (content : Content)
      → IsPairInStep (g.D.Desk.contents l.fn.desk) (g.D.Desk.may_leave l.fn.desk) (value_of l.fn.pair) content
      → LeavesOnly g.D.Desk.clock g.D.Desk.might l.fn.desk l.desk (LeavesContent (g.D.Desk.said l.fn.desk) content);
  said : IsTrue g.D.Desk.tells → g.D.Desk.said l.desk ≡ g.D.Desk.said l.fn.desk;
  file : (value_of l.pair).file ≡ (value_of l.fn.pair).file;
  gate : (value_of l.pair).gate ≡ (value_of l.fn.pair).gate;
  later : g.D.Desk.faults l.fn.desk ≤ g.D.Desk.faults l.desk;
}

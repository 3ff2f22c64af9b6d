-- while it is sound, the desk keeps the store, and what a file is staged on is held; no command counts twice
use Rattle.std.proofs.Common.{◌≤◌, IsTrue}
use Rattle.std.specs.Prelude.{IfSome}
use Rattle.chart_store.specs.Staging.{IsStagedOn}
use Rattle.chart_store.specs.Store.{IsKept, count_of, is_sound, state_of}
use Rattle.sample_stores.proofs.runs.opened.Given as goal

abbrev pub invariant-loop-next : goal.invariant-loop-next
invariant-loop-next g l = record {
  count : count_of l.run.store ≤ l.next-index;
  kept : IsTrue g.D.Desk.tells → IsTrue (is_sound l.run.store) →
      IsKept (g.D.Desk.contents l.desk) (g.D.Desk.may_leave l.desk) l.run.store;
  on : IfSome l.run.staged (IsStagedOn (state_of l.run.store));
}

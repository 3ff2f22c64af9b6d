-- while it is sound, the desk keeps the store; no command counts twice
use Rattle.std.proofs.Common.{◌≤◌, IsTrue}
use Rattle.chart_store.specs.Store.{IsKept, count_of, is_sound}
use Rattle.sample_stores.proofs.stores.submit_all.Given as goal

abbrev pub invariant-loop-given : goal.invariant-loop-given
invariant-loop-given g l = record {
  count : count_of l.store ≤ l.given-index;
  kept : IsTrue g.D.Desk.tells → IsTrue (is_sound l.store) →
      IsKept (g.D.Desk.contents l.desk) (g.D.Desk.may_leave l.desk) l.store;
}

-- at most one command is accepted a file, and a sound store is kept
use Rattle.std.proofs.Common.{◌≤◌, IsTrue}
use Rattle.chart_store.specs.Store.{IsKept, count_of, is_sound}
use Rattle.store_bench.proofs.load_all.Given as goal

abbrev pub invariant-loop-name : goal.invariant-loop-name
invariant-loop-name g l =
    (count_of l.store ≤ l.name-index)
    × (IsTrue g.D.Desk.tells → IsTrue (is_sound l.store) →
    IsKept (g.D.Desk.contents l.desk) (g.D.Desk.may_leave l.desk) l.store)

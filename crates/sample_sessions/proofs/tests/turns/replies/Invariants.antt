-- the next turn may follow, and no line counts twice
use Rattle.std.proofs.Common.{◌≡◌, ◌≤◌, true, length, vec_len}
use Rattle.chart_ports.specs.MemoryDesk.{contents_of, leaves_of}
use Rattle.chart_store.specs.Store.{count_of}
use Rattle.session_core.specs.Session.{IsReady, scenes_of, store_of}
use Rattle.sample_sessions.proofs.tests.turns.replies.Given as goal

abbrev pub invariant-loop-line : goal.invariant-loop-line
invariant-loop-line g l = record {
  ready : IsReady true (contents_of l.desk) (leaves_of l.desk) l.session;
  count : count_of (store_of l.session) ≤ l.line-index;
  as_many : vec_len l.panels ≡ length (scenes_of l.session);
}

use Rattle.chart_store.proofs.Loading.{Laws}
use Rattle.chart_store.proofs.Keeping.{Sequences}
use Rattle.chart_store.proofs.Placing.{Holds}
use Rattle.chart_store.proofs.Commanding.{after-live, state_with-live, charts-live}
use Rattle.chart_store.proofs.laws.commands_leave_what_is_held.Goals as goal

pub returns : goal.returns
returns c =
    let laws : Laws = record { none = c.one_file_more.ensures.none; follow = c.accepted_files_follow.ensures } in
    let sequences : Sequences = record {
      tested = c.sequences_are_tested.ensures;
      before = c.sequences_grow.ensures.before;
    } in
    let holds : Holds = record {
      held = c.sequences_are_held.ensures.held;
      closed = c.sequences_are_held.ensures.closed;
    } in
    record {
      live = after-live laws sequences holds;
      more = state_with-live laws sequences holds;
      charts = charts-live laws;
    }

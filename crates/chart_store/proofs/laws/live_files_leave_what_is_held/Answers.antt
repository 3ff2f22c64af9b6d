use Rattle.chart_store.proofs.Commanding.{state_by-live, state_after-live}
use Rattle.chart_store.proofs.laws.live_files_leave_what_is_held.Goals as goal

pub returns : goal.returns
returns c =
    let stay = c.commands_leave_what_is_held.ensures.more in
    record { live = state_by-live stay; more = state_after-live stay }

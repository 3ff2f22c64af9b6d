use Rattle.std.specs.FinMap as map
use Rattle.chart_store.proofs.Commanding.{reached-live}
use Rattle.chart_store.proofs.Holdings.{AreLive-nothing}
use Rattle.chart_store.proofs.Placing.{closed-chart}
use Rattle.chart_store.specs.Loaded.{nothing_held}
use Rattle.chart_store.proofs.store.Store.state.Goals as goal

pub returns-clause-live : goal.returns-clause-live
returns-clause-live c = λ reached.
    reached-live c.commands_leave_what_is_held.ensures.more nothing_held reached.0 c.state.result.now AreLive-nothing
    reached.1

pub returns-clause-closed : goal.returns-clause-closed
returns-clause-closed c = λ key.
    closed-chart key (map.get c.state.result.now.cells key) (c.state.ensures.closed key)

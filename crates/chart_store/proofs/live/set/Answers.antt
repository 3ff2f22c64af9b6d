use Rattle.std.proofs.Common.{sym, subst}
use Rattle.chart_model.specs.State.{IsState}
use Rattle.chart_store.specs.Loaded.{HoldingsByKey}
use Rattle.chart_store.proofs.Holdings.{IsState-with}
use Rattle.chart_store.proofs.live.set.Goals as goal

pub invariant_of-state-2 : goal.invariant_of-state-2
invariant_of-state-2 c =
    subst (λ (cells : HoldingsByKey). IsState (record { cells = cells })) (sym c.in_ok-before.ensures.ok)
    (IsState-with (record { cells = c.state.inside.cells }) c.args.key c.args.holding c.state.invariant c.requires)

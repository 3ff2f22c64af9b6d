-- Nothing is held.
use Rattle.std.proofs.Common.{sym, subst}
use Rattle.chart_model.specs.State.{IsState}
use Rattle.chart_store.specs.Loaded.{HoldingsByKey}
use Rattle.chart_store.specs.Live.{IsStore}
use Rattle.chart_store.proofs.Holdings.{IsState-nothing, IsStore-nothing}
use Rattle.chart_store.proofs.live.LiveCells.new.Goals as goal

pub invariant_of-result : goal.invariant_of-result
invariant_of-result c =
    subst (λ (cells : HoldingsByKey). IsState (record { cells = cells })) (sym c.new.ensures) IsState-nothing

pub invariant_of-result-2 : goal.invariant_of-result-2
invariant_of-result-2 c =
    subst (λ (cells : HoldingsByKey). IsStore (record { cells = cells }) 0) (sym c.new.ensures) IsStore-nothing

use Rattle.std.proofs.Common.{ap, sym, subst, ◌∙◌, Option}
use Rattle.std.specs.FinMap as map
use Rattle.chart_model.specs.State.{StateValue}
use Rattle.chart_model.specs.declared.state.Holding.{Holding}
use Rattle.chart_difference.specs.Difference.{AreChanged}
use Rattle.chart_store.specs.Loaded.{chart_of}
use Rattle.chart_store.proofs.Holdings.{get-with}
use Rattle.chart_store.proofs.live.LiveCells.take_by.Goals as goal

pub returns-clause-changed : goal.returns-clause-changed
returns-clause-changed g c = λ named.
    let next = c.in_ok-key.field-0 in
    let here =
    ap (λ (state : StateValue). map.get state.cells next.key) c.in_ok-old.ensures.ok
    ∙ get-with c.args.self.now.cells next.key next.holding in
    subst (λ (holding : Option Holding).
    AreChanged (chart_of (map.get c.args.self.now.cells next.key)) (chart_of holding) next.changed)
    (sym here)
    (c.in_ok-key.ensures.changed named)

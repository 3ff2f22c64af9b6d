-- Charts, one after the other.
use Rattle.std.proofs.Common.{◌≡◌, true, sym, ◌∙◌, ap, rules}
use Rattle.std.specs.FinMap as finite
use Rattle.chart_store.proofs.Checkpoints.{are_closed, closed-goes, closed-stops}
use Rattle.chart_store.proofs.checkpoint.have_closed_charts.Goals as goal

pub loop-here-init : goal.loop-here-init
loop-here-init c =
    let all : c.into_iter-here-iterator.result ≡ finite.entries c.args.cells.now = search rules in
    ap are_closed all

pub loop-here-preserved : goal.loop-here-preserved
loop-here-preserved c =
    closed-goes _ c.is_closed_chart.result _ _ _ _ c.in-Some.ensures.steps c.loop-here.invariant c.as_ref.ensures.value
    c.is_closed_chart.ensures c.if-not-is_closed_chart.false

pub returns-then-not-is_closed_chart : goal.returns-then-not-is_closed_chart
returns-then-not-is_closed_chart c =
    closed-stops _ c.is_closed_chart.result _ _ _ _ c.in-Some.ensures.steps c.loop-here.invariant c.as_ref.ensures.value
    c.is_closed_chart.ensures c.if-not-is_closed_chart.true

pub returns : goal.returns
returns c =
    let none : true ≡ are_closed c.loop-here.here-iterator = sym (ap are_closed c.in-None.ensures.steps.0) in
    none ∙ c.loop-here.invariant

-- Each chart has its grid.
use Rattle.std.proofs.Common.{◌≡◌, ◌∙◌, ap, subst, sym}
use Rattle.std.specs.Prelude.{IfOk}
use Rattle.chart_model.specs.State.{StateValue}
use Rattle.chart_store.specs.Loaded.{HoldingsByKey}
use Rattle.route_check.specs.Report.{report_of}
use Rattle.session_core.specs.Kept.{IsKeptOfEach}
use Rattle.spatial_grid.specs.Box.{IsGridOf}
use Rattle.chart_picture.proofs.Grids.{has-grids}
use Rattle.chart_picture.proofs.run.voyage.dangers_along.Goals as goal

pub returns : goal.returns
returns c =
    let state = c.state.result.now in
    let kept =
    subst (λ (cells : HoldingsByKey). IsKeptOfEach IsGridOf cells c.in_ok-grids.grids)
    (c.cells.ensures.cells ∙ ap (λ (held : StateValue). held.cells) (sym c.state.ensures.state)) c.in_ok-grids.ensures in
    subst (λ (held : StateValue). IfOk c.report.result (λ dangers. dangers ≡ report_of held c.args.settings.now c.args.route.now))
    c.state.ensures.state (c.report.ensures.whole (has-grids state c.in_ok-grids.grids kept))

-- What was judged can then be held.
use Rattle.std.proofs.Common.{◌≡◌, ◌∙◌, IfSome, List, ℕ, Option, sym, ap, subst}
use Rattle.std.specs.FinMap as map
use Rattle.std.specs.Option.{option_copied}
use Rattle.chart_model.specs.Cell.{CellValue}
use Rattle.chart_model.specs.State.{IsHolding}
use Rattle.chart_model.specs.declared.dataset.Header.{Header}
use Rattle.chart_model.specs.declared.state.Held.{Held}
use Rattle.chart_model.specs.declared.state.Holding.{Holding}
use Rattle.update_sequence.specs.Judged.{judged}
use Rattle.chart_store.specs.Begun.{IsBegun}
use Rattle.chart_store.specs.Loaded.{HoldingsByKey, chart_after, chart_of, held_after, held_of}
use Rattle.chart_store.proofs.Answering.{given-ok}
use Rattle.chart_store.proofs.CanBeHeld.{Builds}
use Rattle.chart_store.proofs.Placing.{held-by}
use Rattle.chart_store.proofs.load.next_by_effect.Goals as goal

pub with_file-requires-clause-holds : goal.with_file-requires-clause-holds
with_file-requires-clause-holds c =
    let work = c.args.work in
    let is = c.requires.is in
    let cells = c.args.live.now.cells in
    let keyed : work.header.key ≡ is.dataset.header.key = ap (λ (h : Header). h.key) is.header in
    let here : option_copied c.get-before.result ≡ map.get cells is.dataset.header.key =
    c.get-before.ensures ∙ ap (λ (m : HoldingsByKey). map.get m work.header.key) c.cells.ensures.cells
    ∙ ap (map.get cells) keyed in
    let found : option_copied c.chart_of.result ≡ chart_of (map.get cells is.dataset.header.key) =
    c.chart_of.ensures ∙ ap chart_of here in
    let kept : work.chart ≡ option_copied c.chart_of.result =
    sym c.requires.chart ∙ ap (λ (k : List ℕ). chart_of (map.get cells k)) keyed ∙ sym found in
    let numbers : c.in_ok-made.made.held ≡ held_after (map.get cells is.dataset.header.key) work.effect is.dataset.header =
    c.in_ok-made.ensures.held ∙ c.held_after-held.ensures
    ∙ ap (λ (o : Option Holding). held_after o work.effect work.header) here
    ∙ ap (λ (h : Header). held_after (map.get cells is.dataset.header.key) work.effect h) is.header in
    let builds = ap (λ (chart : Option CellValue). chart_after chart work.effect is.dataset) (sym found)
    ∙ given-ok _ _ (c.in_ok-made.ensures.chart is.dataset work.done
    (subst (λ (chart : Option CellValue). IsBegun chart work.effect is.dataset work.done work.begun) kept is.begun)) in
    let judges = ap (λ (h : Option Held). judged h is.dataset)
    (ap (λ (k : List ℕ). held_of (map.get cells k)) (sym keyed) ∙ c.requires.before) ∙ is.judges in
    let laws : Builds = record {
      data_sets = c.files_are_data_sets.ensures.kept;
      changes = c.files_are_data_sets.ensures.changes;
      closed = c.charts_are_closed.ensures;
      cells = c.charts_are_cells.ensures;
      base = c.headers_follow.ensures.base;
      update = c.headers_follow.ensures.update;
    } in
    (held-by c.args.live.now is.dataset c.args.file work.effect c.in_ok-made.made.held c.in_ok-made.made.chart
    work.header.key keyed numbers builds laws
    (subst (λ (m : HoldingsByKey). IfSome (map.get m is.dataset.header.key) (IsHolding is.dataset.header.key))
    c.cells.ensures.cells (c.cells.ensures.holdings is.dataset.header.key))
    is.reads is.short judges).holds

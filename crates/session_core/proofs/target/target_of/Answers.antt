-- A walk over the cells, with the features of their charts.
use Rattle.std.proofs.Common.{◌≡◌, List, ℕ, Option, Some, ap, sym, subst, ◌∙◌}
use Rattle.std.specs.Prelude.{option_and_then, option_map}
use Rattle.std.specs.FinMap as finite
use Rattle.std.specs.List.{flat_map}
use Rattle.chart_model.specs.Cell.{CellValue}
use Rattle.chart_model.specs.declared.state.Holding.{Holding}
use Rattle.date_display.specs.Days.{date_of}
use Rattle.panel_port.specs.Panel.{Scene as Blocks}
use Rattle.session_core.specs.Kept.{IsKeptOf}
use Rattle.session_core.specs.Model.{Portrayal, portrayal_with}
use Rattle.session_core.specs.Panels.{blocks_under, with_all}
use Rattle.session_core.specs.Steps.{features_drawn}
use Rattle.session_core.proofs.Keeping.{counted-goes}
use Rattle.session_core.proofs.Targets.{chart-blocks, next-held, rest-goes, target-put, with-append}
use Rattle.topology_cache.specs.Users.{AreUsersOf}
use Rattle.session_core.proofs.target.target_of.Goals as goal

pub put_chart-requires : goal.put_chart-requires
put_chart-requires g c =
    let key = c.in-Some.key.now in
    let here = c.in-Some.holding.now in
    let held : finite.get c.args.charts.now.cells.now key ≡ Some here =
    next-held c.args.charts.now.cells.now _ _ key here c.loop-key.invariant.rest c.in-Some.ensures.steps in
    subst (λ (o : Option CellValue). IsKeptOf AreUsersOf o (finite.get c.args.charts.now.users.now key))
    (ap (λ (o : Option Holding). option_and_then (λ (held : Holding). held.chart) o) held
    ∙ sym c.as_ref.ensures.value) (c.requires key)

pub loop-key-preserved : goal.loop-key-preserved
loop-key-preserved g c =
    let charts = c.args.charts.now in
    let portrayal : Portrayal = portrayal_with charts.table.now charts.settings.now (option_map date_of charts.day) in
    let entry : List ℕ × Holding = (c.in-Some.key.now, c.in-Some.holding.now) in
    record {
      rest = rest-goes charts.cells.now _ _ entry c.loop-key.invariant.rest c.in-Some.ensures.steps;
      target = ap (λ (m : Blocks). with_all m (flat_map (chart-blocks portrayal) c.next.new.self))
          (c.in_ok-put_chart.ensures.put
          ∙ ap (λ (o : Option CellValue). with_all c.loop-key.target (blocks_under portrayal entry.0 o))
          c.as_ref.ensures.value)
          ∙ sym (with-append c.loop-key.target (chart-blocks portrayal entry)
          (flat_map (chart-blocks portrayal) c.next.new.self))
          ∙ ap (λ (l : List (List ℕ × Holding)). with_all c.loop-key.target (flat_map (chart-blocks portrayal) l))
          (sym c.in-Some.ensures.steps)
          ∙ c.loop-key.invariant.target;
      counted = counted-goes (features_drawn portrayal) c.loop-key.steps c.put_chart.new.steps _ entry.0 entry.1 _ _ _
          c.in-Some.ensures.steps c.as_ref.ensures.value c.loop-key.invariant.counted c.put_chart.ensures.at_most;
    }

pub returns-clause-target : goal.returns-clause-target
returns-clause-target g c =
    let charts = c.args.charts.now in
    let portrayal : Portrayal = portrayal_with charts.table.now charts.settings.now (option_map date_of charts.day) in
    ap (λ (l : List (List ℕ × Holding)). with_all c.loop-key.target (flat_map (chart-blocks portrayal) l))
    (sym c.in-None.ensures.steps.0)
    ∙ c.loop-key.invariant.target ∙ target-put portrayal charts.cells.now

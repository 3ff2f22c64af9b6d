-- with the blocks of the charts that are left in it, the target is what it is to be, and no more features were counted
-- than those of the others
use Rattle.std.proofs.Common.{◌≡◌, ◌≤◌, ◌+◌}
use Rattle.std.specs.FinMap as finite
use Rattle.std.specs.List.{flat_map}
use Rattle.std.specs.Prelude.{option_map}
use Rattle.date_display.specs.Days.{date_of}
use Rattle.session_core.specs.Model.{portrayal_with}
use Rattle.session_core.specs.Panels.{with_all}
use Rattle.session_core.specs.Steps.{features_drawn, features_refreshed}
use Rattle.session_core.proofs.Keeping.{charted_by}
use Rattle.session_core.proofs.Targets.{Rest, chart-blocks}
use Rattle.session_core.proofs.target.target_of.Given as goal

abbrev pub invariant-loop-key : goal.invariant-loop-key
invariant-loop-key g l =
    let portrayal = portrayal_with l.charts.table.now l.charts.settings.now (option_map date_of l.charts.day) in
    record {
      rest : Rest l.charts.cells.now l.key-iterator;
      target : with_all l.target (flat_map (chart-blocks portrayal) l.key-iterator)
          ≡ with_all finite.empty (flat_map (chart-blocks portrayal) (finite.entries l.charts.cells.now));
      counted : l.steps + charted_by (features_drawn portrayal) l.key-iterator
          ≤ l.initial.steps + features_refreshed portrayal l.charts.cells.now;
    }

use Rattle.std.proofs.Common.{List, sym, ◌∙◌, subst}
use Rattle.route_check.specs.declared.danger.Danger.{Danger}
use Rattle.route_check.specs.Report.{IsReportBy}
use Rattle.route_check.proofs.Whole.{by_rows, is_exact}
use Rattle.route_check.proofs.reports.report.Goals as goal

pub returns : goal.returns
returns c =
    let grids = c.args.grids.now in
    let state = c.args.state.now in
    let settings = c.args.settings.now in
    let route = c.args.route.now in
    let rows = c.in_ok-each_once.field-0.items in
    let asked =
    by_rows grids state settings route c.in_ok-rows.rows.items rows c.in_ok-rows.ensures.rows c.in_ok-each_once.ensures.same c.in_ok-each_once.ensures.ordered in
    record {
      asked = subst (λ (l : List Danger). IsReportBy grids state settings route l) (sym c.from_vec.ensures) asked;
      whole = λ has.
          c.from_vec.ensures
          ∙ c.reports_are_one.ensures state settings route rows c.in_ok-rows.ensures.state (is_exact grids state settings route has rows asked);
    }

use Rattle.route_check.proofs.Rows.{report_is}
use Rattle.route_check.proofs.report_laws.reports_are_exact.Goals as goal

pub returns : goal.returns
returns c = λ state settings route. report_is state settings route

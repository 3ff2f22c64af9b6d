use Rattle.route_check.proofs.Unique.{one_report}
use Rattle.route_check.proofs.report_laws.reports_are_one.Goals as goal

pub returns : goal.returns
returns c = λ state settings route report. one_report state settings route report

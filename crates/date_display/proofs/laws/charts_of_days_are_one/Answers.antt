use Rattle.date_display.proofs.Kept.{chart_on_is, chart_on_only}
use Rattle.date_display.proofs.laws.charts_of_days_are_one.Goals as goal

pub returns-clause-there : goal.returns-clause-there
returns-clause-there c = λ day cell. chart_on_is cell day

pub returns-clause-one : goal.returns-clause-one
returns-clause-one c = λ day cell shown is. chart_on_only cell day shown is

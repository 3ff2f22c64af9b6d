use Rattle.session_core.proofs.OtherDays.{turns-alike}
use Rattle.session_core.proofs.laws.days_leave_charts.Goals as goal

pub returns : goal.returns
returns c = turns-alike

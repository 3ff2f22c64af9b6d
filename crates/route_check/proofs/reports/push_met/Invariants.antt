use Rattle.std.proofs.Common.{◌≡◌, ◌++◌, drop}
use Rattle.route_check.specs.Report.{rows_of}
use Rattle.route_check.proofs.reports.push_met.Given as goal

abbrev pub invariant-loop-object : goal.invariant-loop-object
invariant-loop-object l =
    l.rows.items ++ rows_of (drop l.object-index l.objects) (l.number, l.leg)
    ≡ l.initial.rows.items ++ rows_of l.objects (l.number, l.leg)

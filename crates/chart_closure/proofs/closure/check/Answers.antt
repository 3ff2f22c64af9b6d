use Rattle.std.proofs.lemmas.Result.{err_from_is_err_and}
use Rattle.chart_closure.proofs.Closures.{answer_closed, answer_least, found_first, found_then}
use Rattle.chart_closure.proofs.closure.check.Goals as goal

pub returns-in_err-check_features-clause-fault : goal.returns-in_err-check_features-clause-fault
returns-in_err-check_features-clause-fault c =
    let p = err_from_is_err_and c.from_residual.result c.from_residual.ensures.1 in
    rw (p.1, p.2) (found_first c.args.cell.now _ c.in_err-check_features.ensures.fault)

pub returns-in_err-check_features-clause-closed : goal.returns-in_err-check_features-clause-closed
returns-in_err-check_features-clause-closed c =
    answer_closed c.args.cell.now c.from_residual.result c.in_err-check_features.ensures.cell (returns-in_err-check_features-clause-fault c)

pub returns-in_err-check_features-clause-least : goal.returns-in_err-check_features-clause-least
returns-in_err-check_features-clause-least c =
    answer_least c.args.cell.now c.from_residual.result c.in_err-check_features.ensures.cell (returns-in_err-check_features-clause-fault c)

pub returns-clause-fault : goal.returns-clause-fault
returns-clause-fault c = found_then c.args.cell.now _ c.in_ok-check_features.ensures.fault c.check_vectors.ensures

pub returns-clause-closed : goal.returns-clause-closed
returns-clause-closed c =
    answer_closed c.args.cell.now c.check_vectors.result c.in_ok-check_features.ensures.cell (returns-clause-fault c)

pub returns-clause-least : goal.returns-clause-least
returns-clause-least c =
    answer_least c.args.cell.now c.check_vectors.result c.in_ok-check_features.ensures.cell (returns-clause-fault c)

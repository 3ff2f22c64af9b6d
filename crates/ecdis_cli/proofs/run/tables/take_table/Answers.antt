-- The table isn't taken, or it is the one that was to be read.
use Rattle.ecdis_cli.proofs.Tables.{ended-failed, last-done, last-ended}
use Rattle.ecdis_cli.proofs.run.tables.take_table.Goals as goal

pub returns-in-Ok-clause-found : goal.returns-in-Ok-clause-found
returns-in-Ok-clause-found g c = λ t. last-done 1 _ c.in-Ok.table (c.in-Ok.ensures.found t)

pub returns-in-Err-clause-found : goal.returns-in-Err-clause-found
returns-in-Err-clause-found g c = λ t. last-ended 1 c.in-Err.stop c.of_file.result _ c.of_file.ensures (c.in-Err.ensures.found t)

pub returns-in-Err-clause-ends : goal.returns-in-Err-clause-ends
returns-in-Err-clause-ends g c = (1, c.in-Err.stop, c.of_file.ensures)

pub returns-in-Err-clause-failed : goal.returns-in-Err-clause-failed
returns-in-Err-clause-failed g c =
    ended-failed 1 c.in-Err.stop c.of_file.result c.of_file.ensures c.in-Err.ensures.failed

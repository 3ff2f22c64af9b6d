-- The fetch, and then what the file says.
use Rattle.ecdis_cli.proofs.Tables.{catalogue-done, catalogue-refused, catalogue-stopped, passed-failed, reading-failed}
use Rattle.ecdis_cli.proofs.run.tables.fetch_catalogue.Goals as goal

pub returns-in_err-file-clause-found : goal.returns-in_err-file-clause-found
returns-in_err-file-clause-found g c =
    λ t. catalogue-stopped _ c.from_residual.result c.in_err-file.field-0.0 c.from_residual.ensures.1 (c.in_err-file.ensures.found t)

pub returns-in_err-file-clause-failed : goal.returns-in_err-file-clause-failed
returns-in_err-file-clause-failed g c =
    passed-failed c.from_residual.result c.in_err-file.field-0.0 c.from_residual.ensures.1 c.in_err-file.ensures.failed

pub returns-in_err-read_objects-clause-found : goal.returns-in_err-read_objects-clause-found
returns-in_err-read_objects-clause-found g c =
    λ t. catalogue-refused _ c.in_ok-file.file c.as_slice.result.now c.from_residual-in_err-read_objects.result c.in_err-read_objects.field-0.0
    c.from_residual-in_err-read_objects.ensures.1 (c.in_ok-file.ensures.found t) c.as_slice.ensures c.in_err-read_objects.ensures

pub returns-in_err-read_objects-clause-failed : goal.returns-in_err-read_objects-clause-failed
returns-in_err-read_objects-clause-failed g c =
    reading-failed c.from_residual-in_err-read_objects.result _ c.from_residual-in_err-read_objects.ensures.1

pub returns-clause-found : goal.returns-clause-found
returns-clause-found g c =
    λ t. catalogue-done _ c.in_ok-file.file c.as_slice.result.now c.in_ok-read_objects.field-0 (c.in_ok-file.ensures.found t) c.as_slice.ensures
    c.in_ok-read_objects.ensures

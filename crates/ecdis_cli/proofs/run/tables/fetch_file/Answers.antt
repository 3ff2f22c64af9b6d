-- The fetch failed, or what the shelf has is told.
use Rattle.ecdis_cli.proofs.Tables.{shelf-failed, shelf-gives}
use Rattle.ecdis_cli.proofs.run.tables.fetch_file.Goals as goal

pub returns-in_err-fetched-clause-found : goal.returns-in_err-fetched-clause-found
returns-in_err-fetched-clause-found g c =
    λ t. shelf-gives c.from_residual.result c.in_err-fetched.field-0.0 _ c.from_residual.ensures.1

pub returns-in_err-fetched-clause-failed : goal.returns-in_err-fetched-clause-failed
returns-in_err-fetched-clause-failed g c =
    shelf-failed c.from_residual.result c.in_err-fetched.field-0.0 c.from_residual.ensures.1 c.in_err-fetched.ensures.failed

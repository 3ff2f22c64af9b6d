-- The fetch failed, or what the shelf has was answered.
use Rattle.session_core.proofs.Fetching.{failed-found, served-found}
use Rattle.session_core.proofs.fetch.fetch.Goals as goal

pub returns-in_err-fetched-clause-found : goal.returns-in_err-fetched-clause-found
returns-in_err-fetched-clause-found g c =
    failed-found _ _ _ _ c.args.limit c.args.name c.from_residual.result c.in_err-fetched.field-0.0 c.from_residual.ensures.1 c.in_err-fetched.ensures.failed

pub returns-clause-found : goal.returns-clause-found
returns-clause-found g c =
    served-found _ _ _ _ c.args.limit c.args.name c.as_str.result.now c.in_ok-fetched.fetched c.file_in.result c.as_str.ensures.bytes c.in_ok-fetched.ensures.found c.file_in.ensures.given

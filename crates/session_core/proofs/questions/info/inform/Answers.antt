-- The fetch, and then what the file says of itself.
use Rattle.std.proofs.Common.{arith}
use Rattle.chart_store.specs.Loaded.{FILE_LIMIT}
use Rattle.session_core.specs.Fetch.{file_in}
use Rattle.session_core.proofs.Fetching.{info-stopped, info-refused, info-done}
use Rattle.session_core.proofs.Stepping.{file-within}
use Rattle.session_core.proofs.questions.info.inform.Goals as goal

pub returns-in_err-bytes-clause-found : goal.returns-in_err-bytes-clause-found
returns-in_err-bytes-clause-found g c =
    let found = c.in_err-bytes.ensures.found in
    (found.0, found.1, info-stopped c.args.name (found.0 FILE_LIMIT c.args.name) c.from_residual.result c.in_err-bytes.field-0.0 c.from_residual.ensures.1 found.2, omega arith)

pub returns-in_err-info-clause-found : goal.returns-in_err-info-clause-found
returns-in_err-info-clause-found g c =
    let found = c.in_ok-bytes.ensures.found in (
      found.0,
      found.1,
      info-refused c.args.name (found.0 FILE_LIMIT c.args.name) c.in_ok-bytes.bytes c.as_slice.result.now c.from_residual-in_err-info.result c.in_err-info.field-0.0
          c.from_residual-in_err-info.ensures.1 found.2 c.as_slice.ensures c.in_err-info.ensures.said,
      file-within (file_in FILE_LIMIT c.args.name (found.0 FILE_LIMIT c.args.name)) c.in_ok-bytes.bytes c.as_slice.result.now _ _ found.2 c.as_slice.ensures c.in_err-info.ensures.at_most,
    )

pub returns-clause-found : goal.returns-clause-found
returns-clause-found g c =
    let found = c.in_ok-bytes.ensures.found in (
      found.0,
      found.1,
      info-done c.args.name (found.0 FILE_LIMIT c.args.name) c.in_ok-bytes.bytes c.as_slice.result.now c.in_ok-info.info found.2 c.as_slice.ensures c.in_ok-info.ensures.said,
      file-within (file_in FILE_LIMIT c.args.name (found.0 FILE_LIMIT c.args.name)) c.in_ok-bytes.bytes c.as_slice.result.now _ _ found.2 c.as_slice.ensures c.in_ok-info.ensures.at_most,
    )

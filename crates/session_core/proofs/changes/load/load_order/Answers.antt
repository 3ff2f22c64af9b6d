-- The file is fetched, and ordered.
use Rattle.std.proofs.Common.{ℕ, List, Result, Ok}
use Rattle.chart_store.specs.Loaded.{FILE_LIMIT}
use Rattle.session_core.specs.declared.changes.order.Order.{Order}
use Rattle.session_core.specs.declared.changes.order.Success.TheVariants.{Load}
use Rattle.session_core.specs.declared.refusal.LineRefusal.{LineRefusal}
use Rattle.session_core.specs.Fetch.{file_in}
use Rattle.session_core.specs.Order.{order_of_file}
use Rattle.session_core.proofs.Fetching.{next-done, next-stopped}
use Rattle.session_core.proofs.changes.load.load_order.Goals as goal

abbrev next : List ℕ → Result Order LineRefusal
next file = Ok (order_of_file Load file)

pub returns-in_err-file-clause-found : goal.returns-in_err-file-clause-found
returns-in_err-file-clause-found g c =
    let found = c.in_err-file.ensures.found in
    (found.0, found.1, next-stopped next (file_in FILE_LIMIT c.args.name (found.0 FILE_LIMIT c.args.name)) c.from_residual.result c.in_err-file.field-0.0 c.from_residual.ensures.1 found.2)

pub returns-clause-found : goal.returns-clause-found
returns-clause-found g c =
    let found = c.in_ok-file.ensures.found in
    (found.0, found.1, next-done next (file_in FILE_LIMIT c.args.name (found.0 FILE_LIMIT c.args.name)) c.in_ok-file.file found.2)

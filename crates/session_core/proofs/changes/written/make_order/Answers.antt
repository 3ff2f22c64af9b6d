-- The file is written, and ordered.
use Rattle.std.proofs.Common.{Result, Ok}
use Rattle.session_core.specs.declared.changes.order.Order.{Order}
use Rattle.session_core.specs.declared.changes.order.Success.TheVariants.{Make}
use Rattle.session_core.specs.declared.changes.written.MadeFile.{MadeFile}
use Rattle.session_core.specs.declared.refusal.LineRefusal.{LineRefusal}
use Rattle.session_core.specs.Order.{order_of_file}
use Rattle.session_core.specs.Written.{made_file}
use Rattle.session_core.proofs.Fetching.{next-done, next-stopped}
use Rattle.session_core.proofs.changes.written.make_order.Goals as goal

abbrev next : MadeFile → Result Order LineRefusal
next made = Ok (order_of_file (Make made.records) made.bytes)

pub returns-in_err-file-clause-given : goal.returns-in_err-file-clause-given
returns-in_err-file-clause-given c =
    next-stopped next (made_file c.args.areas c.args.update) c.from_residual.result c.in_err-file.field-0.0 c.from_residual.ensures.1 c.in_err-file.ensures.given

pub returns-clause-given : goal.returns-clause-given
returns-clause-given c = next-done next (made_file c.args.areas c.args.update) c.in_ok-file.file c.in_ok-file.ensures.given

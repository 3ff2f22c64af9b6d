-- The file is written, and ordered.
use Rattle.std.proofs.Common.{ℕ, List, Result, Ok}
use Rattle.session_core.specs.declared.changes.order.Order.{Order}
use Rattle.session_core.specs.declared.changes.order.Success.TheVariants.{Reissue}
use Rattle.session_core.specs.declared.refusal.LineRefusal.{LineRefusal}
use Rattle.session_core.specs.Order.{order_of_file}
use Rattle.session_core.specs.Written.{reissue_file}
use Rattle.session_core.specs.declared.fault.EventFault.TheVariants.{NoMemory}
use Rattle.session_core.proofs.Fetching.{next-done, next-stopped}
use Rattle.session_core.proofs.Reissuing.{not-passed, same-cells}
use Rattle.session_core.proofs.changes.written.reissue_order.Goals as goal

abbrev next : List ℕ → Result Order LineRefusal
next file = Ok (order_of_file Reissue file)

pub returns-in_err-file-clause-given : goal.returns-in_err-file-clause-given
returns-in_err-file-clause-given c =
    next-stopped next (reissue_file c.args.cells.now c.args.key) c.from_residual.result c.in_err-file.field-0.0 c.from_residual.ensures.1 c.in_err-file.ensures.given

pub returns-clause-given : goal.returns-clause-given
returns-clause-given c = next-done next (reissue_file c.args.cells.now c.args.key) c.in_ok-file.file c.in_ok-file.ensures.given

pub returns-in_err-file-clause-keeps : goal.returns-in_err-file-clause-keeps
returns-in_err-file-clause-keeps c = λ other model same.
    same-cells c.reissues_keep_the_chart.ensures _ _ c.requires.held
    (c.in_err-file.ensures.reads_back (not-passed c.from_residual.result c.in_err-file.field-0.0 NoMemory c.from_residual.ensures.1 other)) model same

pub returns-clause-keeps : goal.returns-clause-keeps
returns-clause-keeps c = λ other model same.
    same-cells c.reissues_keep_the_chart.ensures _ _ c.requires.held (c.in_ok-file.ensures.reads_back (λ e. cc)) model same

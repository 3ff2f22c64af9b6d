use Rattle.std.proofs.Common.{◌∙◌}
use Rattle.script_reader.proofs.Verbs.{rollback_read, rollback_missed}
use Rattle.script_reader.proofs.event.rollback_of.Goals as goal

pub returns-in_err-update : goal.returns-in_err-update
returns-in_err-update c =
    c.from_residual-in_err-update.ensures ∙ rollback_missed c.args.cell.now c.args.digits.now c.in_err-update.ensures

pub returns : goal.returns
returns c =
    let cell = c.in_ok-cell.ensures in
    let update = c.in_ok-update.ensures in
    rollback_read c.keys_are_tested.ensures c.args.cell.now c.args.digits.now c.in_ok-cell.cell c.in_ok-update.update cell.0 cell.1 update.0 update.1

use Rattle.std.proofs.Common.{◌∙◌}
use Rattle.script_reader.proofs.Verbs.{step_read, number_missed}
use Rattle.script_reader.proofs.event.step_of.Goals as goal

pub returns-in_err-changes : goal.returns-in_err-changes
returns-in_err-changes c = c.from_residual.ensures ∙ number_missed _ c.args.changes.now c.in_err-changes.ensures

pub returns : goal.returns
returns c =
    let changes = c.in_ok-changes.ensures in
    c.step_with.ensures ∙ step_read c.args.changes.now c.in_ok-changes.changes changes.0 changes.1

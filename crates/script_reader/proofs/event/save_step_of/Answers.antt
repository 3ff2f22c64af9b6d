use Rattle.std.proofs.Common.{◌∙◌}
use Rattle.script_reader.proofs.Verbs.{save_step_read, number_missed}
use Rattle.script_reader.proofs.event.save_step_of.Goals as goal

pub returns-in_err-slices : goal.returns-in_err-slices
returns-in_err-slices c = c.from_residual.ensures ∙ number_missed _ c.args.slices.now c.in_err-slices.ensures

pub returns : goal.returns
returns c =
    let slices = c.in_ok-slices.ensures in
    c.save_step_with.ensures ∙ save_step_read c.args.slices.now c.in_ok-slices.slices slices.0 slices.1

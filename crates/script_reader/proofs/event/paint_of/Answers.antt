use Rattle.std.proofs.Common.{◌∙◌}
use Rattle.script_reader.proofs.Verbs.{paint_read, first_missed, second_missed}
use Rattle.script_reader.proofs.event.paint_of.Goals as goal

pub returns-in_err-panel : goal.returns-in_err-panel
returns-in_err-panel c =
    c.from_residual.ensures ∙ first_missed _ c.args.panel.now c.args.calls.now c.in_err-panel.ensures

pub returns-in_err-calls : goal.returns-in_err-calls
returns-in_err-calls c =
    c.from_residual-in_err-calls.ensures ∙ second_missed _ c.args.panel.now c.args.calls.now c.in_err-calls.ensures

pub returns : goal.returns
returns c =
    let panel = c.in_ok-panel.ensures in
    let calls = c.in_ok-calls.ensures in
    c.paint_with.ensures ∙ paint_read c.args.panel.now c.args.calls.now c.in_ok-panel.panel c.in_ok-calls.calls panel.0 panel.1 calls.0 calls.1

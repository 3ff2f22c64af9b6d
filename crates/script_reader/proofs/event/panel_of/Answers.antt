use Rattle.std.proofs.Common.{◌∙◌}
use Rattle.script_reader.proofs.Verbs.{panel_read, number_missed}
use Rattle.script_reader.proofs.event.panel_of.Goals as goal

pub returns-in_err-panel : goal.returns-in_err-panel
returns-in_err-panel c = c.from_residual.ensures ∙ number_missed _ c.args.panel.now c.in_err-panel.ensures

pub returns : goal.returns
returns c =
    let panel = c.in_ok-panel.ensures in
    panel_read c.args.panel.now c.in_ok-panel.panel panel.0 panel.1

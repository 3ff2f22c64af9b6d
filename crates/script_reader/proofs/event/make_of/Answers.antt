use Rattle.std.proofs.Common.{◌∙◌}
use Rattle.script_reader.proofs.Verbs.{make_read, first_missed, second_missed}
use Rattle.script_reader.proofs.event.make_of.Goals as goal

pub returns-in_err-areas : goal.returns-in_err-areas
returns-in_err-areas c =
    c.from_residual.ensures ∙ first_missed _ c.args.areas.now c.args.update.now c.in_err-areas.ensures

pub returns-in_err-update : goal.returns-in_err-update
returns-in_err-update c =
    c.from_residual-in_err-update.ensures ∙ second_missed _ c.args.areas.now c.args.update.now c.in_err-update.ensures

pub returns : goal.returns
returns c =
    let areas = c.in_ok-areas.ensures in
    let update = c.in_ok-update.ensures in
    c.make_with.ensures ∙ make_read c.args.areas.now c.args.update.now c.in_ok-areas.areas c.in_ok-update.update areas.0 areas.1 update.0 update.1

use Rattle.std.proofs.Common.{sym, subst}
use Rattle.std.specs.Prelude.{Option, IfSome}
use Rattle.chart_store.specs.Staging.{IsStagedOn, StagedValue}
use Rattle.chart_store.specs.Store.{room_of, state_of}
use Rattle.sample_stores.proofs.Sound.{not-while-sound}
use Rattle.sample_stores.proofs.Staying.{commands-stay}
use Rattle.sample_stores.proofs.runs.Run.submit.Goals as goal

-- a store that is still sound has not seen the desk fail
pub returns-clause-kept : goal.returns-clause-kept
returns-clause-kept g c = λ tells sound.
    c.submit-answer.ensures.kept tells (not-while-sound _ c.submit-answer.ensures.sound.1 sound)

-- a command of another cell leaves what the file is staged on
pub returns-clause-on : goal.returns-clause-on
returns-clause-on g c =
    let held = state_of c.args.self.now.store in
    commands-stay c.commands_change_their_cell_alone.ensures.alone held (state_of c.submit-answer.new.self)
    (room_of c.args.self.now.store) c.in_ok-command.command c.submit-answer.result _ c.take-staged.result c.not_overtaken.result
    c.submit-answer.ensures.outcome c.submit-answer.ensures.held c.not_overtaken.ensures.same c.not_overtaken.ensures.other
    (subst (λ (s : Option StagedValue). IfSome s (IsStagedOn held)) (sym c.take-staged.ensures.value) c.requires.on)

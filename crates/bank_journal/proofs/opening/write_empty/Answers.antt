use Rattle.std.proofs.Common.{◌∙◌}
use Rattle.bank_journal.proofs.InStep.{zeros_at_each_moment, zeros_opened, zeros_written}
use Rattle.bank_journal.proofs.opening.write_empty.Goals as goal

pub returns-in_err-write_through-clause-moments : goal.returns-in_err-write_through-clause-moments
returns-in_err-write_through-clause-moments g c = λ tells.
    zeros_at_each_moment (c.requires.short tells) (c.write_through.ensures.moments tells)

pub returns-clause-moments : goal.returns-clause-moments
returns-clause-moments g c = λ tells.
    zeros_at_each_moment (c.requires.short tells) (c.write_through.ensures.moments tells)

pub returns-clause-in_step : goal.returns-clause-in_step
returns-clause-in_step g c = λ tells.
    let done = c.in_ok-write_through.ensures in
    zeros_opened (g.D.Desk.contents c.args.desk.now c.args.file)
    (g.D.Desk.contents c.write_through.new.desk c.args.file) _
    (g.D.Desk.may_leave c.write_through.new.desk c.args.file) _
    (c.requires.short tells) (done.done tells) (done.settled tells) c.at-bank.ensures.gate c.empty.ensures

pub returns-clause-zeros : goal.returns-clause-zeros
returns-clause-zeros g c = λ tells.
    c.in_ok-write_through.ensures.done tells
    ∙ zeros_written (g.D.Desk.contents c.args.desk.now c.args.file) (c.requires.short tells)

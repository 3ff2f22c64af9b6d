use Rattle.script_reader.proofs.Verbs.{begin_read, begin_again, some_read, when_failed}
use Rattle.script_reader.proofs.event.begin_of.Goals as goal

pub returns-in_err-name-clause-memory : goal.returns-in_err-name-clause-memory
returns-in_err-name-clause-memory c = when_failed _ c.from_residual.result (begin_again c.args.word.now c.in_err-name.ensures.memory)

pub returns-in-Some-clause-event : goal.returns-in-Some-clause-event
returns-in-Some-clause-event c =
    let name = some_read _ c.in_ok-name.field-0 c.in-Some.name c.args.word.now c.in_ok-name.ensures.word c.in-Some.is in
    begin_read c.args.word.now c.in-Some.name name.0 name.1

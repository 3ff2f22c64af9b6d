-- The base file for 0, and else the update.
use Rattle.session_core.proofs.Writing.{made-base, made-update}
use Rattle.session_core.proofs.changes.written.made_file.Goals as goal

pub returns-then-update-eq0-clause-given : goal.returns-then-update-eq0-clause-given
returns-then-update-eq0-clause-given c = made-base c.args.areas c.args.update c.base_of.result c.if-update-eq0.true c.base_of.ensures.given

pub returns-in_ok-update_of-clause-given : goal.returns-in_ok-update_of-clause-given
returns-in_ok-update_of-clause-given c = made-update c.args.areas c.args.update c.in_ok-update_of.field-0 c.if-update-eq0.false c.in_ok-update_of.ensures

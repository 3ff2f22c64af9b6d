-- A cell that is made has few records.
use Rattle.session_core.proofs.Writing.{few-vectors-made, few-features-made}
use Rattle.session_core.proofs.changes.written.base_of.Goals as goal

pub records_of-requires-clause-vectors : goal.records_of-requires-clause-vectors
records_of-requires-clause-vectors c = few-vectors-made c.args.areas c.in_ok-cell.cell c.in_ok-cell.ensures c.requires.1

pub records_of-requires-clause-features : goal.records_of-requires-clause-features
records_of-requires-clause-features c = few-features-made c.args.areas c.in_ok-cell.cell c.in_ok-cell.ensures c.requires.1

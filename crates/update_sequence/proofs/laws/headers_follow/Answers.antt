use Rattle.std.proofs.Common.{Some, None}
use Rattle.update_sequence.proofs.Charts.{built-header}
use Rattle.update_sequence.proofs.laws.headers_follow.Goals as goal

pub returns-clause-base : goal.returns-clause-base
returns-clause-base c = built-header c.headers_are_kept.ensures None

pub returns-clause-update : goal.returns-clause-update
returns-clause-update c = λ chart. built-header c.headers_are_kept.ensures (Some chart)

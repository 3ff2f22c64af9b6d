use Rattle.update_sequence.proofs.Charts.{built-ok}
use Rattle.update_sequence.proofs.laws.charts_are_closed.Goals as goal

pub returns : goal.returns
returns c = λ chart dataset cell e. c.first_is_least.ensures.closed cell (built-ok chart dataset cell e).1

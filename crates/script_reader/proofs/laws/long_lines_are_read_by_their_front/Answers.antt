use Rattle.script_reader.proofs.Events.{spelled_short}
use Rattle.script_reader.proofs.Answered.{long_front}
use Rattle.script_reader.proofs.laws.long_lines_are_read_by_their_front.Goals as goal

pub returns-clause-short : goal.returns-clause-short
returns-clause-short c = spelled_short

pub returns-clause-front : goal.returns-clause-front
returns-clause-front c = long_front c.keys_are_tested.ensures

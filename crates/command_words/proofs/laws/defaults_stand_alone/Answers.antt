use Rattle.command_words.proofs.Walks.{named}
use Rattle.command_words.proofs.Apart.{named_apart}
use Rattle.command_words.proofs.laws.defaults_stand_alone.Goals as goal

pub returns-clause-joined : goal.returns-clause-joined
returns-clause-joined c = named

pub returns-clause-apart : goal.returns-clause-apart
returns-clause-apart c = named_apart

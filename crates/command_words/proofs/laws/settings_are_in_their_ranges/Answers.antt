use Rattle.command_words.proofs.Ranges.{said_in_range}
use Rattle.command_words.proofs.laws.settings_are_in_their_ranges.Goals as goal

pub returns : goal.returns
returns c = said_in_range

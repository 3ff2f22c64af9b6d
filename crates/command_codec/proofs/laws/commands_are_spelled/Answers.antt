use Rattle.command_codec.proofs.Spellings.{found, given}
use Rattle.command_codec.proofs.laws.commands_are_spelled.Goals as goal

pub returns : goal.returns
returns c = λ bytes command. (found c.keys_are_tested.ensures bytes command, given c.keys_are_tested.ensures bytes command)

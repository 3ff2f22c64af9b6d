use Rattle.command_words.proofs.Digits.{from_to_found, from_to_again}
use Rattle.command_words.proofs.laws.numbers_are_spelled.Goals as goal

pub returns : goal.returns
returns c = λ low high text n. (from_to_found low high text n, λ is. from_to_again low high text n is.0 is.1 is.2)

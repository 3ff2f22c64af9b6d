use Rattle.std.proofs.Common.{ap, ◌∙◌, ℕ, Some}
use Rattle.text_scan.proofs.Numbers.{number_of_found, number_of_again, signed_of_found, signed_of_again}
use Rattle.text_scan.proofs.number.numbers_are_spelled.Goals as goal

pub returns-clause-number : goal.returns-clause-number
returns-clause-number c =
    λ text n. (number_of_found text n, λ is. number_of_again text is.0 ∙ ap (λ (k : ℕ). Some k) is.1)

pub returns-clause-signed : goal.returns-clause-signed
returns-clause-signed c = λ text z. (signed_of_found text z, signed_of_again text z)

use Rattle.exchange_catalogue.proofs.Spelled.{spelled, named}
use Rattle.exchange_catalogue.proofs.laws.cell_names_are_spelled.Goals as goal

pub returns : goal.returns
returns c = λ name cell. (
  spelled c.numbers_are_spelled.ensures.number name cell,
  named c.numbers_are_spelled.ensures.number name cell,
)

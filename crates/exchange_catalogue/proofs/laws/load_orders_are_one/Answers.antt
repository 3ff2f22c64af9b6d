use Rattle.exchange_catalogue.proofs.Putting.{order-is, order-one}
use Rattle.exchange_catalogue.proofs.laws.load_orders_are_one.Goals as goal

pub returns-clause-there : goal.returns-clause-there
returns-clause-there c = order-is

pub returns-clause-one : goal.returns-clause-one
returns-clause-one c = order-one

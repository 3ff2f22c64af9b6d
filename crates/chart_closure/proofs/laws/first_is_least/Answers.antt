use Rattle.chart_closure.proofs.Closures.{closed, faultless, least}
use Rattle.chart_closure.proofs.laws.first_is_least.Goals as goal

pub returns-clause-closed : goal.returns-clause-closed
returns-clause-closed c = λ cell e. closed cell e

pub returns-clause-none : goal.returns-clause-none
returns-clause-none c = λ cell kept none. faultless cell kept none

pub returns-clause-least : goal.returns-clause-least
returns-clause-least c = λ cell fault kept e. least cell fault kept e

use Rattle.chart_pages.proofs.StatesRead.{found, given}
use Rattle.chart_pages.proofs.laws.states_are_spelled.Goals as goal

pub returns : goal.returns
returns c = λ bytes state. (found c.keys_are_tested.ensures bytes state, given c.keys_are_tested.ensures bytes state)

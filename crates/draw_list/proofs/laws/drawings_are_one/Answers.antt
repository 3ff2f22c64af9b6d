use Rattle.draw_list.proofs.Unique.{one_drawing}
use Rattle.draw_list.proofs.Placed.{drawing_there}
use Rattle.draw_list.proofs.laws.drawings_are_one.Goals as goal

pub returns-clause-there : goal.returns-clause-there
returns-clause-there c = drawing_there

pub returns-clause-one : goal.returns-clause-one
returns-clause-one c = one_drawing

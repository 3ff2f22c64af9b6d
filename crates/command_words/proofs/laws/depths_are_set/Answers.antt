use Rattle.command_words.proofs.Walks.{safety_contour_set, safety_depth_set, shallow_set, deep_set}
use Rattle.command_words.proofs.laws.depths_are_set.Goals as goal

pub returns-clause-safety_contour : goal.returns-clause-safety_contour
returns-clause-safety_contour c = safety_contour_set

pub returns-clause-safety_depth : goal.returns-clause-safety_depth
returns-clause-safety_depth c = safety_depth_set

pub returns-clause-shallow : goal.returns-clause-shallow
returns-clause-shallow c = shallow_set

pub returns-clause-deep : goal.returns-clause-deep
returns-clause-deep c = deep_set

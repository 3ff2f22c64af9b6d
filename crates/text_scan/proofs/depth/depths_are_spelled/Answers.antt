use Rattle.text_scan.proofs.DepthTexts.{depth_of_found, depth_of_again, one_depth_of}
use Rattle.text_scan.proofs.depth.depths_are_spelled.Goals as goal

pub returns-clause-function : goal.returns-clause-function
returns-clause-function c = λ text depth. (depth_of_found text depth, depth_of_again text depth)

pub returns-clause-one : goal.returns-clause-one
returns-clause-one c = one_depth_of

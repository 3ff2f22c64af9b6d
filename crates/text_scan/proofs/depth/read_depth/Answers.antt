use Rattle.std.proofs.Common.{◌∙◌}
use Rattle.text_scan.proofs.DepthTexts.{found_depth, depth_of_again}
use Rattle.text_scan.proofs.depth.read_depth.Goals as goal

pub returns-clause-found : goal.returns-clause-found
returns-clause-found c = found_depth c.args.text.now c.read.result c.read.ensures

pub returns-clause-only : goal.returns-clause-only
returns-clause-only c = λ depth spelled. c.read.ensures ∙ depth_of_again c.args.text.now depth spelled

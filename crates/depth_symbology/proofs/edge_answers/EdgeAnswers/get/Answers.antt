use Rattle.std.proofs.Common.{◌∙◌}
use Rattle.chart_model.proofs.Names.{name_cmp-total}
use Rattle.chart_model.proofs.Trees.{get-seen}
use Rattle.depth_symbology.proofs.edge_answers.EdgeAnswers.get.Goals as goal

pub returns : goal.returns
returns c = c.copied.ensures ∙ c.get.ensures.value ∙ get-seen name_cmp-total _ _ _ c.self.view_is

use Rattle.std.proofs.Common.{ap, ◌∙◌}
use Rattle.std.specs.FinMap.{insert}
use Rattle.chart_model.proofs.Names.{name_cmp-total, name_cmp-IsAntisymmetric}
use Rattle.chart_model.proofs.Trees.{insert-tree}
use Rattle.depth_symbology.proofs.edge_answers.EdgeAnswers.keep.Goals as goal

pub returns-clause-ok : goal.returns-clause-ok
returns-clause-ok c =
    insert-tree name_cmp-total name_cmp-IsAntisymmetric _ _ _ _ c.in_ok-insert.ensures.updates.0
    ∙ ap (λ m. insert m c.args.edge c.args.borders) c.self.view_is

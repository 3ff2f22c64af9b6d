use Rattle.std.proofs.Common.{Bool, List, sym, subst}
use Rattle.std.specs.FinMap as finite
use Rattle.chart_model.specs.declared.name.Name.{Name}
use Rattle.depth_symbology.specs.EdgeAnswers.{AreAnswers}
use Rattle.depth_symbology.proofs.Kept.{none-kept}
use Rattle.depth_symbology.proofs.edge_answers.EdgeAnswers.new.Goals as goal

pub returns : goal.returns
returns c cell contour =
    subst (λ (es : List (Name × Bool)). AreAnswers cell contour (finite.from_entries es)) (sym c.new.ensures.empty)
    (none-kept cell contour)

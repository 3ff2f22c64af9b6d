use Rattle.std.proofs.Common.{◌∙◌}
use Rattle.std.specs.Cmp.Lexicographic.{pointwise}
use Rattle.chart_difference.specs.Same.{same_text}
use Rattle.chart_difference.proofs.Texts.{same-texts}
use Rattle.chart_difference.proofs.same.same_attrs.Goals as goal

pub returns : goal.returns
returns c =
    c.eq.ensures
    ∙ same-texts c.as_slice.result.now c.as_slice-2.result.now
    ∙ (λ i. pointwise same_text (c.as_slice.ensures i) (c.as_slice-2.ensures i))

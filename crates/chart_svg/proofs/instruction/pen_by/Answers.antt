use Rattle.std.proofs.Common.{ℕ, List, ◌∷◌, ap, ◌∙◌}
use Rattle.text_lines.specs.Lines.{parts_at}
use Rattle.text_lines.proofs.Parting.{cut_gives}
use Rattle.chart_svg.proofs.Pens.{no_pen}
use Rattle.chart_svg.proofs.instruction.pen_by.Goals as goal

pub returns-in-Some : goal.returns-in-Some
returns-in-Some c =
    let style = c.cut_part.result.0.now in
    let width = c.cut_part-2.result.0.now in
    let token = c.cut_part-3.result.0.now in
    let behind_style = cut_gives 44 c.cut_part.result.1 c.in_ok-rest.field-0 c.args.inner.now style c.in_ok-rest.was c.cut_part.ensures.more in
    let behind_width = cut_gives 44 c.cut_part-2.result.1 c.in_ok-rest-2.field-0 c.in_ok-rest.field-0.now width c.in_ok-rest-2.was c.cut_part-2.ensures.more in
    let behind_token = cut_gives 44 c.cut_part-3.result.1 c.in-Some.field-0 c.in_ok-rest-2.field-0.now token c.in-Some.is c.cut_part-3.ensures.more in
    no_pen c.args.look.now (parts_at 44 c.args.inner.now) style width token c.in-Some.field-0.now
    (behind_style ∙ ap (λ (l : List (List ℕ)). style ∷ l) (behind_width ∙ ap (λ (l : List (List ℕ)). width ∷ l) behind_token))

use Rattle.std.proofs.Common.{ℕ, List, ◌∷◌, ap, ◌∙◌}
use Rattle.text_lines.specs.Lines.{words_of}
use Rattle.text_lines.proofs.Parting.{cut_gives, behind_the_third}
use Rattle.text_lines.proofs.words.read_words.Goals as goal

pub returns-in-Some-rest-2 : goal.returns-in-Some-rest-2
returns-in-Some-rest-2 c =
    let first = c.cut_part.result.0.now in
    let second = c.cut_part-2.result.0.now in
    let third = c.cut_part-3.result.0.now in
    let behind_first = cut_gives 32 c.cut_part.result.1 c.in-Some.rest c.args.line.now first c.in-Some.is c.cut_part.ensures.more in
    let behind_second = cut_gives 32 c.cut_part-2.result.1 c.in-Some-rest.rest c.in-Some.rest.now second c.in-Some-rest.is c.cut_part-2.ensures.more in
    let behind_third =
    cut_gives 32 c.cut_part-3.result.1 c.in-Some-rest-2.field-0 c.in-Some-rest.rest.now third c.in-Some-rest-2.is c.cut_part-3.ensures.more in
    behind_the_third 32 (words_of c.args.line.now) first second third c.in-Some-rest-2.field-0.now
    (behind_first ∙ ap (λ (l : List (List ℕ)). first ∷ l) (behind_second ∙ ap (λ (l : List (List ℕ)). second ∷ l) behind_third))

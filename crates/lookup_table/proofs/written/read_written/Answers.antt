use Rattle.std.proofs.Common.{◌≡◌, ℕ, List, ◌∷◌, Option, ap, sym, ◌∙◌, subst}
use Rattle.std.specs.Prelude.{IfOk}
use Rattle.lookup_table.specs.declared.written.WrittenLine.{WrittenLine}
use Rattle.text_lines.proofs.Parting.{cut_gives}
use Rattle.lookup_table.proofs.Words.{line_cut}
use Rattle.lookup_table.proofs.written.read_written.Goals as goal

pub returns-in-Some-rest-3 : goal.returns-in-Some-rest-3
returns-in-Some-rest-3 c =
    let class = c.cut_part.result.0.now in
    let geom = c.cut_part-2.result.0.now in
    let priority = c.cut_part-3.result.0.now in
    let conditions = c.cut_part-4.result.0.now in
    let first = cut_gives 32 c.cut_part.result.1 c.in-Some.rest c.args.line.now class c.in-Some.is c.cut_part.ensures.more in
    let second = cut_gives 32 c.cut_part-2.result.1 c.in-Some-rest.rest c.in-Some.rest.now geom c.in-Some-rest.is c.cut_part-2.ensures.more in
    let third = cut_gives 32 c.cut_part-3.result.1 c.in-Some-rest-2.rest c.in-Some-rest.rest.now priority c.in-Some-rest-2.is c.cut_part-3.ensures.more in
    let fourth = cut_gives 32 c.cut_part-4.result.1 c.in-Some-rest-3.rest c.in-Some-rest-2.rest.now conditions c.in-Some-rest-3.is c.cut_part-4.ensures.more in
    let whole = line_cut c.args.line.now class geom priority conditions c.in-Some-rest-3.rest.now
    (first ∙ ap (λ (l : List (List ℕ)). class ∷ l) (second ∙ ap (λ (l : List (List ℕ)). geom ∷ l) (third ∙ ap (λ (l : List (List ℕ)). priority ∷ l) fourth))) in
    subst (λ (o : Option WrittenLine). IfOk c.read_parts.result (λ written. written ≡ o)) (sym whole) c.read_parts.ensures

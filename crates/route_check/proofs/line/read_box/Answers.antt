use Rattle.std.proofs.Common.{ℕ, List, ◌∷◌, ap, ◌∙◌}
use Rattle.text_lines.specs.Lines.{parts_at}
use Rattle.text_lines.proofs.Parting.{cut_gives}
use Rattle.route_check.proofs.RouteLines.{no_box}
use Rattle.route_check.proofs.line.read_box.Goals as goal

pub returns-in-Some : goal.returns-in-Some
returns-in-Some c =
    let word = c.cut_part.result.0.now in
    let w = c.cut_part-2.result.0.now in
    let h = c.cut_part-3.result.0.now in
    let behind_word = cut_gives 32 c.cut_part.result.1 c.in_ok-rest.field-0 c.args.line.now word c.in_ok-rest.was c.cut_part.ensures.more in
    let behind_w = cut_gives 32 c.cut_part-2.result.1 c.in_ok-rest-2.field-0 c.in_ok-rest.field-0.now w c.in_ok-rest-2.was c.cut_part-2.ensures.more in
    let behind_h = cut_gives 32 c.cut_part-3.result.1 c.in-Some.field-0 c.in_ok-rest-2.field-0.now h c.in-Some.is c.cut_part-3.ensures.more in
    no_box (parts_at 32 c.args.line.now) word w h c.in-Some.field-0.now
    (behind_word ∙ ap (λ (l : List (List ℕ)). word ∷ l) (behind_w ∙ ap (λ (l : List (List ℕ)). w ∷ l) behind_h))

use Rattle.std.proofs.Common.{ℕ, List, ◌∷◌, ap, ◌∙◌}
use Rattle.text_lines.specs.Lines.{parts_at}
use Rattle.text_lines.proofs.Parting.{cut_gives}
use Rattle.route_check.proofs.RouteLines.{no_point}
use Rattle.route_check.proofs.line.read_point.Goals as goal

pub returns-in-Some : goal.returns-in-Some
returns-in-Some c =
    let x = c.cut_part.result.0.now in
    let y = c.cut_part-2.result.0.now in
    let behind_x = cut_gives 32 c.cut_part.result.1 c.in_ok-rest.field-0 c.args.line.now x c.in_ok-rest.was c.cut_part.ensures.more in
    let behind_y = cut_gives 32 c.cut_part-2.result.1 c.in-Some.field-0 c.in_ok-rest.field-0.now y c.in-Some.is c.cut_part-2.ensures.more in
    no_point (parts_at 32 c.args.line.now) x y c.in-Some.field-0.now (behind_x ∙ ap (λ (l : List (List ℕ)). x ∷ l) behind_y)

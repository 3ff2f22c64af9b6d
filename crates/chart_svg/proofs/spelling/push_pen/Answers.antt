use Rattle.std.proofs.Common.{ℕ, List, ◌++◌, ap, refl}
use Rattle.std.specs.Prelude.{codes}
use Rattle.draw_items.proofs.Pushed.{joined, joined_last}
use Rattle.chart_svg.specs.Spelling.{number, attribute, stroke_text, pen_text}
use Rattle.chart_svg.proofs.spelling.push_pen.Goals as goal

pub returns : goal.returns
unfolding pen_text
returns c =
    let out = c.args.out.now in
    let pen = c.args.pen in
    let stroke = stroke_text pen.colour in
    let width = attribute (codes " stroke-width=\"") (number pen.width) in
    let both = joined out c.push_stroke.new.out c.push_number.new.out stroke width (stroke ++ width) c.in_ok-push_stroke.ensures c.in_ok-push_number.ensures refl in
    joined_last c.extend_from_slice.result out c.push_number.new.out c.extend_from_slice.new.self (stroke ++ width) c.dash_text.result.now (pen_text pen)
    both c.extend_from_slice.ensures.ok (ap (λ (l : List ℕ). stroke ++ width ++ l) c.dash_text.ensures)

use Rattle.std.proofs.Common.{◌++◌, refl}
use Rattle.std.specs.Prelude.{codes}
use Rattle.draw_items.proofs.Pushed.{joined, joined_last}
use Rattle.chart_svg.specs.Spelling.{attribute, colour_text, stroke_text}
use Rattle.chart_svg.proofs.spelling.push_sheer.Goals as goal

pub returns : goal.returns
returns c =
    let out = c.args.out.now in
    let fill = attribute (codes " fill=\"") (colour_text c.args.colour) in
    let opacity = codes " fill-opacity=\"0.15\"" in
    let stroke = stroke_text c.args.colour in
    let both = joined out c.push_colour_of.new.out c.extend_from_slice.new.self fill opacity (fill ++ opacity) c.in_ok-push_colour_of.ensures c.in_ok-extend_from_slice.ensures.ok refl in
    joined_last c.push_stroke.result out c.extend_from_slice.new.self c.push_stroke.new.out (fill ++ opacity) stroke (fill ++ opacity ++ stroke)
    both c.push_stroke.ensures refl

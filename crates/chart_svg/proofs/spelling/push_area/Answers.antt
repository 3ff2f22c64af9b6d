use Rattle.std.proofs.Common.{◌++◌, refl}
use Rattle.std.specs.Prelude.{codes}
use Rattle.draw_items.proofs.Pushed.{joined, joined_last}
use Rattle.chart_svg.specs.Outline.{outlines_text}
use Rattle.chart_svg.specs.Spelling.{attribute, fill_text}
use Rattle.chart_svg.proofs.spelling.push_area.Goals as goal

pub returns : goal.returns
returns c =
    let out = c.args.out.now in
    let path = attribute (codes " d=\"") (outlines_text (codes "Z") c.args.rings.now) in
    let rule = codes " fill-rule=\"evenodd\"" in
    let fill = fill_text c.args.fill in
    let both = joined out c.push_lines.new.out c.extend_from_slice.new.self path rule (path ++ rule) c.in_ok-push_lines.ensures c.in_ok-extend_from_slice.ensures.ok refl in
    joined_last c.push_fill.result out c.extend_from_slice.new.self c.push_fill.new.out (path ++ rule) fill (path ++ rule ++ fill)
    both c.push_fill.ensures refl

use Rattle.std.proofs.Common.{◌++◌, refl}
use Rattle.std.specs.Prelude.{codes}
use Rattle.draw_items.proofs.Pushed.{joined, joined_last}
use Rattle.chart_svg.specs.Escape.{escaped}
use Rattle.chart_svg.specs.Spelling.{title_text}
use Rattle.chart_svg.proofs.spelling.push_title.Goals as goal

pub returns : goal.returns
unfolding title_text
returns c =
    let out = c.args.out.now in
    let text = escaped c.args.text.now in
    let opened = joined out c.extend_from_slice.new.self c.push_escaped.new.out (codes "><title>") text (codes "><title>" ++ text)
    c.in_ok-extend_from_slice.ensures.ok c.in_ok-push_escaped.ensures refl in
    joined_last c.extend_from_slice-2.result out c.push_escaped.new.out c.extend_from_slice-2.new.self (codes "><title>" ++ text) (codes "</title></path>") (title_text c.args.text.now)
    opened c.extend_from_slice-2.ensures.ok refl

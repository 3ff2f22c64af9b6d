use Rattle.std.proofs.Common.{◌++◌, refl}
use Rattle.std.specs.Prelude.{codes}
use Rattle.draw_items.proofs.Pushed.{joined, joined_last}
use Rattle.chart_svg.specs.Escape.{escaped}
use Rattle.chart_svg.specs.Spelling.{number, attribute, source_text}
use Rattle.chart_svg.proofs.spelling.push_source.Goals as goal

pub returns : goal.returns
unfolding source_text
returns c =
    let out = c.args.out.now in
    let cell = attribute (codes " data-cell=\"") (escaped c.args.key.now) in
    let feature = attribute (codes " data-feature=\"") (number c.args.rcid) in
    let instruction = attribute (codes " data-instruction=\"") (escaped c.args.text.now) in
    let both = joined out c.push_text.new.out c.push_number.new.out cell feature (cell ++ feature) c.in_ok-push_text.ensures c.in_ok-push_number.ensures refl in
    joined_last c.push_text-2.result out c.push_number.new.out c.push_text-2.new.out (cell ++ feature) instruction (source_text c.args.key.now c.args.rcid c.args.text.now)
    both c.push_text-2.ensures refl

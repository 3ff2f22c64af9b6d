use Rattle.std.proofs.Common.{◌++◌, refl}
use Rattle.std.specs.Prelude.{codes}
use Rattle.draw_items.proofs.Pushed.{joined, joined_last}
use Rattle.chart_svg.specs.Escape.{escaped}
use Rattle.chart_svg.specs.Spelling.{number, attribute, row_text}
use Rattle.chart_svg.proofs.spelling.push_row.Goals as goal

pub returns : goal.returns
unfolding row_text
returns c =
    let out = c.args.out.now in
    let leg = attribute (codes " data-leg=\"") (number c.args.leg) in
    let cell = attribute (codes " data-cell=\"") (escaped c.args.key.now) in
    let feature = attribute (codes " data-feature=\"") (number c.args.rcid) in
    let place = attribute (codes " data-place=\"") (number c.args.place) in
    let two = joined out c.push_number.new.out c.push_text.new.out leg cell (leg ++ cell) c.in_ok-push_number.ensures c.in_ok-push_text.ensures refl in
    let three = joined out c.push_text.new.out c.push_number-2.new.out (leg ++ cell) feature (leg ++ cell ++ feature) two c.in_ok-push_number-2.ensures refl in
    joined_last c.push_number-3.result out c.push_number-2.new.out c.push_number-3.new.out (leg ++ cell ++ feature) place (row_text c.args.leg c.args.key.now c.args.rcid c.args.place)
    three c.push_number-3.ensures refl

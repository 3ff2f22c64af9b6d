use Rattle.std.proofs.Common.{◌++◌, refl}
use Rattle.std.specs.Prelude.{codes}
use Rattle.draw_items.proofs.Pushed.{joined_last}
use Rattle.chart_svg.specs.Document.{opening}
use Rattle.chart_svg.proofs.document.push_opening.Goals as goal

pub returns : goal.returns
unfolding opening
returns c =
    joined_last c.extend_from_slice-2.result c.args.out.now c.extend_from_slice.new.self c.extend_from_slice-2.new.self
    (codes "<?xml version=\"1.0\" encoding=\"UTF-8\"?>\n")
    (codes "<svg xmlns=\"http://www.w3.org/2000/svg\" version=\"1.1\" fill=\"none\" viewBox=\"0 0 ") opening
    c.in_ok-extend_from_slice.ensures.ok c.extend_from_slice-2.ensures.ok refl

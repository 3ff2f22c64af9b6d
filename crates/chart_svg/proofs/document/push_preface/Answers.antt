use Rattle.std.proofs.Common.{◌++◌, refl}
use Rattle.std.specs.Prelude.{codes}
use Rattle.draw_items.proofs.Pushed.{joined, joined_last}
use Rattle.chart_svg.specs.Document.{preface}
use Rattle.chart_svg.proofs.document.push_preface.Goals as goal

pub returns : goal.returns
unfolding preface
returns c =
    let out = c.args.out.now in
    let title = codes "\">\n<title>Not for navigation</title>\n" in
    let pattern = codes "<defs><pattern id=\"hatching\" width=\"8\" height=\"8\" patternUnits=\"userSpaceOnUse\">" in
    let line = codes "<path d=\"M0,8L8,0\" stroke=\"gray\"/></pattern></defs>\n" in
    let both = joined out c.extend_from_slice.new.self c.extend_from_slice-2.new.self title pattern (title ++ pattern)
    c.in_ok-extend_from_slice.ensures.ok c.in_ok-extend_from_slice-2.ensures.ok refl in
    joined_last c.extend_from_slice-3.result out c.extend_from_slice-2.new.self c.extend_from_slice-3.new.self (title ++ pattern) line preface
    both c.extend_from_slice-3.ensures.ok refl

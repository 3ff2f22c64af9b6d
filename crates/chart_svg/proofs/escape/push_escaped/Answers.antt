use Rattle.std.proofs.Common.{arith, sym, ◌∙◌}
use Rattle.std.proofs.lemmas.Grind.{common_steps}
use Rattle.chart_svg.proofs.Quiet.{plain_text}
use Rattle.chart_svg.proofs.escape.push_escaped.Goals as goal

pub returns-then-are_plain : goal.returns-then-are_plain
returns-then-are_plain c =
    let same = plain_text c.args.text.now (sym c.are_plain.ensures ∙ c.if-are_plain.true) in
    rw same c.extend_from_slice.ensures.ok

use Rattle.std.proofs.Common.{sym, ap, ◌∙◌}
use Rattle.std.specs.Option.{option_copied}
use Rattle.chart_svg.proofs.Arguments.{without_opening, behind_opening, before_closing}
use Rattle.chart_svg.proofs.instruction.argument.Goals as goal

pub returns-in_err-strip_prefix : goal.returns-in_err-strip_prefix
returns-in_err-strip_prefix c =
    ap option_copied c.from_residual.ensures
    ∙ without_opening c.args.opening.now c.args.text.now c.in_err-strip_prefix.ensures.cases

pub returns : goal.returns
returns c =
    let opening = c.args.opening.now in
    let text = c.args.text.now in
    let found = c.in_ok-strip_prefix.field-0 in
    before_closing opening text found.now (behind_opening opening text found c.in_ok-strip_prefix.ensures.cases)
    c.strip_suffix.result c.strip_suffix.ensures.cases

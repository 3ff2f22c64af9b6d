use Rattle.chart_svg.proofs.Quiet.{text_is_quiet}
use Rattle.chart_svg.proofs.laws.escaped_text_is_quiet.Goals as goal

pub returns : goal.returns
returns c = text_is_quiet

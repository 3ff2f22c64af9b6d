use Rattle.std.proofs.Common.{sym, ◌∙◌}
use Rattle.text_lines.proofs.Parting.{cut_some, cut_none}
use Rattle.text_lines.proofs.parts.cut_part.Goals as goal

pub returns-in-Some-clause-more : goal.returns-in-Some-clause-more
returns-in-Some-clause-more c = cut_some c.args.parting c.args.text.now c.in-Some.at (sym c.place_of.ensures ∙ c.in-Some.is)

pub returns-in-None-clause-last : goal.returns-in-None-clause-last
returns-in-None-clause-last c = cut_none c.args.parting c.args.text.now (sym c.place_of.ensures ∙ c.in-None.is)

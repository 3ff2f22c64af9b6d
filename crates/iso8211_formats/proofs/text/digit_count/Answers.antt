use Rattle.std.proofs.Common.{sym, ◌∙◌}
use Rattle.iso8211_formats.proofs.Searches.{digits_and_rest-found, digits_and_rest-missed}
use Rattle.iso8211_formats.proofs.text.digit_count.Goals as goal

pub returns-in-Some-clause-parts : goal.returns-in-Some-clause-parts
returns-in-Some-clause-parts c = digits_and_rest-found c.args.text.now c.in-Some.at (sym c.place_of_other.ensures ∙ c.in-Some.is)

pub returns-in-None-clause-parts : goal.returns-in-None-clause-parts
returns-in-None-clause-parts c = digits_and_rest-missed c.args.text.now (sym c.place_of_other.ensures ∙ c.in-None.is)

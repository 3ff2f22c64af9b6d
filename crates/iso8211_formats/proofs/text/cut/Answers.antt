use Rattle.std.proofs.Common.{sym, ◌∙◌}
use Rattle.std.proofs.lemmas.List.{take_rest}
use Rattle.iso8211_formats.proofs.Searches.{cut_at-found, cut_at-missed}
use Rattle.iso8211_formats.proofs.text.cut.Goals as goal

pub returns-in-Some-clause-parts : goal.returns-in-Some-clause-parts
returns-in-Some-clause-parts c =
    let found = cut_at-found c.args.byte c.args.text.now c.in-Some.at (sym c.place_of.ensures ∙ c.in-Some.is) in
    rw take_rest (sym found)

pub returns-in-None-clause-parts : goal.returns-in-None-clause-parts
returns-in-None-clause-parts c = sym (cut_at-missed c.args.byte c.args.text.now (sym c.place_of.ensures ∙ c.in-None.is))

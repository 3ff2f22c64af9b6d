use Rattle.std.proofs.Common.{sym, ◌∙◌}
use Rattle.picture_words.proofs.Viewing.{four, too_few, too_many}
use Rattle.picture_words.proofs.reading.view_of.Goals as goal

pub returns-in_default : goal.returns-in_default
returns-in_default c = sym (too_few c.args.width c.args.borders.now c.in_default.len_below)

pub returns-in_default-2 : goal.returns-in_default-2
returns-in_default-2 c = sym (too_many c.args.width c.args.borders.now c.in_default.len_at_least)

pub returns-in-len4 : goal.returns-in-len4
returns-in-len4 c =
    c.view_between.ensures ∙ sym (four c.args.width c.args.borders.now _ c.in-len4.len_at_least c.in-len4.len_below)

use Rattle.std.proofs.Common.{sym, ◌∙◌}
use Rattle.area_rings.proofs.Edges.{blank, too_few, too_many, two_pointers, in_order, exchanged, neither}
use Rattle.area_rings.proofs.edge.end_names.Goals as goal

pub returns-in_default : goal.returns-in_default
returns-in_default c = sym (too_few c.args.pointers.now c.in_default.len_below)

pub returns-in_default-2 : goal.returns-in_default-2
returns-in_default-2 c = sym (too_many c.args.pointers.now c.in_default.len_at_least)

pub returns-then-begins_and_ends : goal.returns-then-begins_and_ends
returns-then-begins_and_ends c =
    sym (two_pointers c.args.pointers.now blank c.in-len2.len_at_least c.in-len2.len_below ∙ in_order _ _ (sym c.begins_and_ends.ensures ∙ c.if-begins_and_ends.true))

pub returns-then-begins_and_ends-2 : goal.returns-then-begins_and_ends-2
returns-then-begins_and_ends-2 c =
    sym (two_pointers c.args.pointers.now blank c.in-len2.len_at_least c.in-len2.len_below ∙ exchanged _ _ (sym c.begins_and_ends.ensures ∙ c.if-begins_and_ends.false) (sym c.begins_and_ends-2.ensures ∙ c.if-begins_and_ends-2.true))

pub returns : goal.returns
returns c =
    sym (two_pointers c.args.pointers.now blank c.in-len2.len_at_least c.in-len2.len_below ∙ neither _ _ (sym c.begins_and_ends.ensures ∙ c.if-begins_and_ends.false) (sym c.begins_and_ends-2.ensures ∙ c.if-begins_and_ends-2.false))

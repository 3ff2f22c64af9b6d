use Rattle.std.proofs.Common.{sym, ◌∙◌}
use Rattle.lookup_table.specs.Places.{first_place}
use Rattle.lookup_table.specs.Selection.{applies, is_unconditional}
use Rattle.lookup_table.proofs.Selections.{chosen_first, chosen_second}
use Rattle.lookup_table.proofs.table.Table.select.Goals as goal

pub returns-in-Some : goal.returns-in-Some
returns-in-Some c =
    chosen_first c.args.class c.args.geom c.args.self.now c.args.attrs.now c.in-Some.place
    ((λ i. first_place (applies c.args.attrs.now) (sym c.lines-lines.ensures i) (sym c.places-places.ensures i)) ∙ sym c.first_that_applies.ensures ∙ c.in-Some.is)

pub returns-in-None : goal.returns-in-None
returns-in-None c =
    c.first_unconditional.ensures
    ∙ (λ i. first_place is_unconditional (c.lines-lines.ensures i) (c.places-places.ensures i))
    ∙ chosen_second c.args.class c.args.geom c.args.self.now c.args.attrs.now
    ((λ i. first_place (applies c.args.attrs.now) (sym c.lines-lines.ensures i) (sym c.places-places.ensures i)) ∙ sym c.first_that_applies.ensures ∙ c.in-None.is)

use Rattle.std.proofs.Common.{ap, sym, ◌∙◌}
use Rattle.std.specs.FinMap.{remove}
use Rattle.chart_model.proofs.PageBlocks.{page_of_entries, entry-remove, entry-missing}
use Rattle.chart_model.proofs.page.Page.remove.Goals as goal

pub invariant_of-self : goal.invariant_of-self
invariant_of-self g c =
    rw c.remove.ensures.items
    (entry-remove c.self.inside.entries.items c.args.name c.self.invariant c.in-Ok.place (rw (← c.as_slice.ensures.value) c.in-Ok.ensures.bound) (rw (← c.as_slice.ensures.value) c.in-Ok.ensures.found)).1

pub returns-in-Ok : goal.returns-in-Ok
returns-in-Ok g c =
    ap page_of_entries c.remove.ensures.items
    ∙ (entry-remove c.self.inside.entries.items c.args.name c.self.invariant c.in-Ok.place (rw (← c.as_slice.ensures.value) c.in-Ok.ensures.bound) (rw (← c.as_slice.ensures.value) c.in-Ok.ensures.found)).0
    ∙ ap (λ page. remove page c.args.name) c.self.view_is

pub returns-in_default : goal.returns-in_default
returns-in_default g c =
    sym c.self.view_is
    ∙ entry-missing c.self.inside.entries.items c.args.name c.self.invariant c.in_default.field-0 (rw (← c.as_slice.ensures.value) c.in_default.ensures.bound) (rw (← c.as_slice.ensures.value) c.in_default.ensures.parted)
    ∙ ap (λ page. remove page c.args.name) c.self.view_is

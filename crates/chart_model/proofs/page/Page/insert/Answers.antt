use Rattle.std.proofs.Common.{ap, ◌∙◌}
use Rattle.std.specs.FinMap.{insert}
use Rattle.chart_model.proofs.PageBlocks.{page_of_entries, entry-set, entry-insert}
use Rattle.chart_model.proofs.page.Page.insert.Goals as goal

pub invariant_of-self : goal.invariant_of-self
invariant_of-self g c =
    (entry-set c.self.inside.entries.items c.args.name c.self.invariant c.args.value c.in-Ok.place (rw (← c.as_slice.ensures.value) c.in-Ok.ensures.bound) (rw (← c.as_slice.ensures.value) c.in-Ok.ensures.found)).1

pub invariant_of-self-in-Continue-1 : goal.invariant_of-self-in-Continue-1
invariant_of-self-in-Continue-1 g c =
    rw c.in_ok-insert-in-Err.ensures.items
    (entry-insert c.self.inside.entries.items c.args.name c.self.invariant c.args.value c.in-Err.place (rw (← c.as_slice.ensures.value) c.in-Err.ensures.bound) (rw (← c.as_slice.ensures.value) c.in-Err.ensures.parted)).1

pub returns-in-Ok-clause-ok : goal.returns-in-Ok-clause-ok
returns-in-Ok-clause-ok g c =
    (entry-set c.self.inside.entries.items c.args.name c.self.invariant c.args.value c.in-Ok.place (rw (← c.as_slice.ensures.value) c.in-Ok.ensures.bound) (rw (← c.as_slice.ensures.value) c.in-Ok.ensures.found)).0
    ∙ ap (λ page. insert page c.args.name c.args.value) c.self.view_is

pub returns-in_ok-insert-in-Err-clause-ok : goal.returns-in_ok-insert-in-Err-clause-ok
returns-in_ok-insert-in-Err-clause-ok g c =
    ap page_of_entries c.in_ok-insert-in-Err.ensures.items
    ∙ (entry-insert c.self.inside.entries.items c.args.name c.self.invariant c.args.value c.in-Err.place (rw (← c.as_slice.ensures.value) c.in-Err.ensures.bound) (rw (← c.as_slice.ensures.value) c.in-Err.ensures.parted)).0
    ∙ ap (λ page. insert page c.args.name c.args.value) c.self.view_is

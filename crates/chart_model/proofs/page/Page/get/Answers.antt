use Rattle.std.proofs.Common.{Some, ap, sym, ◌∙◌}
use Rattle.std.specs.FinMap.{get}
use Rattle.chart_model.proofs.PageBlocks.{entry-present, entry-absent}
use Rattle.chart_model.proofs.page.Page.get.Goals as goal

pub returns-in-Ok : goal.returns-in-Ok
returns-in-Ok g c =
    ap (λ entry. Some entry.1) c.index.ensures
    ∙ sym (entry-present c.self.inside.entries.items c.args.name c.self.invariant c.in-Ok.place c.index.result.now (rw (← c.as_slice.ensures.value) c.in-Ok.ensures.bound) (rw (← c.as_slice.ensures.value) c.in-Ok.ensures.found))
    ∙ ap (λ page. get page c.args.name) c.self.view_is

pub returns-in-Err : goal.returns-in-Err
returns-in-Err g c =
    sym (entry-absent c.self.inside.entries.items c.args.name c.self.invariant c.in-Err.field-0 (rw (← c.as_slice.ensures.value) c.in-Err.ensures.bound) (rw (← c.as_slice.ensures.value) c.in-Err.ensures.parted))
    ∙ ap (λ page. get page c.args.name) c.self.view_is

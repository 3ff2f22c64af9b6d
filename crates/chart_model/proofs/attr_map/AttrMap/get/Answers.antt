use Rattle.std.proofs.Common.{Some, ap, sym, ◌∙◌}
use Rattle.std.specs.FinMap.{get}
use Rattle.chart_model.proofs.AttrMaps.{text-present, text-absent}
use Rattle.chart_model.proofs.attr_map.AttrMap.get.Goals as goal

pub returns-in-Ok : goal.returns-in-Ok
returns-in-Ok c =
    ap (λ attr. Some attr.value) c.index.ensures
    ∙ sym (text-present c.self.inside.attrs.items c.args.code c.self.invariant c.in-Ok.place c.index.result.now (rw (← c.as_slice.ensures.value) c.in-Ok.ensures.bound) (rw (← c.as_slice.ensures.value) c.in-Ok.ensures.found))
    ∙ ap (λ attrs. get attrs c.args.code) c.self.view_is

pub returns-in-Err : goal.returns-in-Err
returns-in-Err c =
    sym (text-absent c.self.inside.attrs.items c.args.code c.self.invariant c.in-Err.field-0 (rw (← c.as_slice.ensures.value) c.in-Err.ensures.bound) (rw (← c.as_slice.ensures.value) c.in-Err.ensures.parted))
    ∙ ap (λ attrs. get attrs c.args.code) c.self.view_is

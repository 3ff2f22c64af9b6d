use Rattle.std.proofs.Common.{Some, ap, sym, ◌∙◌}
use Rattle.std.specs.FinMap.{get}
use Rattle.panel_port.proofs.PanelEntries.{entry-present, entry-absent}
use Rattle.panel_port.proofs.block_map.BlockMap.get.Goals as goal

pub returns-in-Ok : goal.returns-in-Ok
returns-in-Ok c =
    ap (λ entry. Some entry.1) c.index.ensures
    ∙ sym
    (entry-present c.self.inside.entries.items c.args.key c.self.invariant c.in-Ok.place c.index.result.now
    (rw (← c.as_slice.ensures.value) c.in-Ok.ensures.bound) (rw (← c.as_slice.ensures.value) c.in-Ok.ensures.found))
    ∙ ap (λ blocks. get blocks c.args.key) c.self.view_is

pub returns-in-Err : goal.returns-in-Err
returns-in-Err c =
    sym
    (entry-absent c.self.inside.entries.items c.args.key c.self.invariant c.in-Err.field-0
    (rw (← c.as_slice.ensures.value) c.in-Err.ensures.bound) (rw (← c.as_slice.ensures.value) c.in-Err.ensures.parted))
    ∙ ap (λ blocks. get blocks c.args.key) c.self.view_is

use Rattle.std.proofs.Common.{ap, ◌∙◌}
use Rattle.std.specs.FinMap.{insert}
use Rattle.panel_port.proofs.PanelEntries.{scene_of_entries, entry-set, entry-insert}
use Rattle.panel_port.proofs.block_map.BlockMap.insert.Goals as goal

pub invariant_of-self : goal.invariant_of-self
invariant_of-self c =
    (entry-set c.self.inside.entries.items c.args.key c.self.invariant c.args.block c.in-Ok.place
    (rw (← c.as_slice.ensures.value) c.in-Ok.ensures.bound) (rw (← c.as_slice.ensures.value) c.in-Ok.ensures.found)).1

pub invariant_of-self-in-Continue-1 : goal.invariant_of-self-in-Continue-1
invariant_of-self-in-Continue-1 c =
    rw c.in_ok-insert-in-Err.ensures.items
    (entry-insert c.self.inside.entries.items c.args.key c.self.invariant c.args.block c.in-Err.place
    (rw (← c.as_slice.ensures.value) c.in-Err.ensures.bound) (rw (← c.as_slice.ensures.value) c.in-Err.ensures.parted)).1

pub returns-in-Ok-clause-ok : goal.returns-in-Ok-clause-ok
returns-in-Ok-clause-ok c =
    (entry-set c.self.inside.entries.items c.args.key c.self.invariant c.args.block c.in-Ok.place
    (rw (← c.as_slice.ensures.value) c.in-Ok.ensures.bound) (rw (← c.as_slice.ensures.value) c.in-Ok.ensures.found)).0
    ∙ ap (λ blocks. insert blocks c.args.key c.args.block) c.self.view_is

pub returns-in_ok-insert-in-Err-clause-ok : goal.returns-in_ok-insert-in-Err-clause-ok
returns-in_ok-insert-in-Err-clause-ok c =
    ap scene_of_entries c.in_ok-insert-in-Err.ensures.items
    ∙ (entry-insert c.self.inside.entries.items c.args.key c.self.invariant c.args.block c.in-Err.place
    (rw (← c.as_slice.ensures.value) c.in-Err.ensures.bound) (rw (← c.as_slice.ensures.value) c.in-Err.ensures.parted)).0
    ∙ ap (λ blocks. insert blocks c.args.key c.args.block) c.self.view_is

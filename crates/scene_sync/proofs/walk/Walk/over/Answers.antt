use Rattle.std.proofs.Common.{T, subst, sym}
use Rattle.std.specs.FinMap.{entries_sorted, is_sorted}
use Rattle.panel_port.specs.PanelKey.{panel_key_cmp}
use Rattle.scene_sync.proofs.walk.Walk.over.Goals as goal

-- the walk begins with all entries of the map
pub invariant_of-result : goal.invariant_of-result
invariant_of-result c =
    subst (λ es. T (is_sorted panel_key_cmp es)) (sym c.as_slice.ensures) (entries_sorted c.args.blocks.now)

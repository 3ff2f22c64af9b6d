use Rattle.std.proofs.Common.{ap, ◌∙◌, sym}
use Rattle.std.specs.FinMap as map
use Rattle.panel_port.specs.PanelKey.{panel_key_cmp}
use Rattle.panel_port.proofs.block_map.BlockMap.as_slice.Goals as goal

pub returns : goal.returns
returns c =
    c.as_slice.ensures.value
    ∙ sym (map.entries-from_sorted panel_key_cmp _ c.self.invariant)
    ∙ ap map.entries c.self.view_is

use Rattle.std.proofs.Common.{length, ap, sym, ◌∙◌}
use Rattle.std.specs.FinMap as map
use Rattle.panel_port.specs.PanelKey.{panel_key_cmp}
use Rattle.panel_port.proofs.block_map.BlockMap.len.Goals as goal

pub returns : goal.returns
returns c =
    c.len.ensures
    ∙ c.self.inside.entries.ok.0
    ∙ ap length (sym (map.entries-from_sorted panel_key_cmp _ c.self.invariant))
    ∙ sym (map.len-entries _)
    ∙ ap map.len c.self.view_is

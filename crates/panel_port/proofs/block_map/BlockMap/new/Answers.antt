use Rattle.std.proofs.Common.{ap, ◌∙◌}
use Rattle.panel_port.proofs.PanelEntries.{none-put, scene_of_entries}
use Rattle.panel_port.proofs.block_map.BlockMap.new.Goals as goal

pub returns : goal.returns
returns c = ap scene_of_entries c.new.ensures.items ∙ none-put

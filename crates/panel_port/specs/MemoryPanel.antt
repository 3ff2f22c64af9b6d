-- What contracts see of a panel in memory.
use Rattle.std.specs.Prelude.{ℕ, Option}
use Rattle.panel_port.specs.Panel.{Scene}
use Rattle.panel_port.specs.Shown.{scene_in}
use Rattle.panel_port.specs.declared.memory_panel.MemoryPanel.{MemoryPanel}

-- the blocks in its memory, told or not
abbrev pub blocks_of : MemoryPanel → Scene
blocks_of panel = panel.shown.blocks

-- the blocks, where they are told
abbrev pub scene_of : MemoryPanel → Option Scene
scene_of panel = scene_in panel.shown

-- how many calls were made
abbrev pub calls_of : MemoryPanel → ℕ
calls_of panel = panel.calls

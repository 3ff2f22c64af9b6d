-- What contracts see of blocks in memory that may be told.
use Rattle.std.specs.Prelude.{Option}
use Rattle.panel_port.specs.Panel.{Scene, told_where}
use Rattle.panel_port.specs.declared.shown.Shown.{Shown}

-- the blocks, where they are told
abbrev pub scene_in : Shown → Option Scene
scene_in shown = told_where shown.is_told shown.blocks

-- What contracts see of a panel in memory that fails at some calls.
use Rattle.std.specs.Prelude.{Option}
use Rattle.chart_ports.specs.declared.calls.Calls.{Calls}
use Rattle.panel_port.specs.Panel.{Scene}
use Rattle.panel_port.specs.Shown.{scene_in}
use Rattle.panel_port.specs.declared.failing_panel.FailingPanel.{FailingPanel}

-- the blocks in its memory, told or not
abbrev pub blocks_of : FailingPanel → Scene
blocks_of panel = panel.shown.blocks

-- the blocks, where they are told
abbrev pub scene_of : FailingPanel → Option Scene
scene_of panel = scene_in panel.shown

-- its calls
abbrev pub calls_of : FailingPanel → Calls
calls_of panel = panel.calls

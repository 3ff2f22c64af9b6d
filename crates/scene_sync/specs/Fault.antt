-- What a refresh answers where a call of its panel fails.
use Rattle.panel_port.specs.declared.error.PanelError.{PanelError}
use Rattle.panel_port.specs.declared.error.PanelError.TheVariants.{Failed, NoMemory as WantsMemory}
use Rattle.scene_sync.specs.declared.fault.PaintFault.{PaintFault}
use Rattle.scene_sync.specs.declared.fault.PaintFault.TheVariants.{Panel, NoMemory}

-- want of memory stays what it is
abbrev pub fault_of : PanelError → PaintFault
fault_of Failed = Panel
fault_of WantsMemory = NoMemory

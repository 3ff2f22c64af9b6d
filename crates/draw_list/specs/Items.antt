-- What the instructions of a table draw of a feature.
use Rattle.std.specs.Prelude.{List, [], ◌∷◌}
use Rattle.chart_model.specs.Cell.{CellValue}
use Rattle.chart_model.specs.declared.cell.Feature.{Feature}
use Rattle.chart_model.specs.declared.drawing.Item.{Item}
use Rattle.chart_model.specs.declared.settings.Settings.{Settings}
use Rattle.lookup_table.specs.declared.instruction.Instruction.{Instruction}
use Rattle.lookup_table.specs.declared.instruction.Instruction.TheVariants.{Draw, Call}
use Rattle.lookup_table.specs.declared.instruction.Procedure.{Procedure}
use Rattle.lookup_table.specs.declared.instruction.Procedure.TheVariants.{Depare01, Depcnt02}
use Rattle.lookup_table.specs.declared.instruction.Procedure.TheVariants.{Soundg02, Obstrn04, Wrecks02}
use Rattle.draw_items.specs.Items.{whole}
use Rattle.depth_symbology.specs.DepthArea.{depare01_of}
use Rattle.depth_symbology.specs.Contours.{depcnt02_of}
use Rattle.depth_symbology.specs.Soundings.{soundg02_of}
use Rattle.hazard_symbology.specs.Hazard.{hazard_items}

-- what a procedure draws of a feature
abbrev pub procedure_items : CellValue → Settings → Feature → Procedure → List Item
procedure_items cell settings feature Depare01 = depare01_of cell settings feature
procedure_items cell settings feature Depcnt02 = depcnt02_of cell settings feature
procedure_items cell settings feature Soundg02 = soundg02_of cell settings feature
procedure_items cell settings feature Obstrn04 = hazard_items cell settings feature
procedure_items cell settings feature Wrecks02 = hazard_items cell settings feature

-- what an instruction draws of it: itself, on the whole feature, or what its procedure makes of the feature
abbrev pub items_by : CellValue → Settings → Feature → Instruction → List Item
items_by cell settings feature (Draw text) = whole text ∷ []
items_by cell settings feature (Call procedure) = procedure_items cell settings feature procedure

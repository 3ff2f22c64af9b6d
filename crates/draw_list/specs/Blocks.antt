-- The blocks of a cell under the names of their features.
use Rattle.std.specs.Prelude.{List, [], ◌∷◌, Option, Some, None, Contains}
use Rattle.std.specs.List.{flat_map}
use Rattle.std.specs.FinMap as map
use Rattle.chart_model.specs.Cell.{CellValue}
use Rattle.chart_model.specs.declared.cell.Feature.{Feature}
use Rattle.chart_model.specs.declared.drawing.Block.{Block}
use Rattle.chart_model.specs.declared.name.Name.{Name}
use Rattle.chart_model.specs.declared.settings.Settings.{Settings}
use Rattle.lookup_table.specs.declared.line.TableLine.{TableLine}
use Rattle.draw_list.specs.declared.blocks.NamedBlock.{NamedBlock}
use Rattle.draw_list.specs.Block.{block_in}

-- the feature's block under its name, where it is shown
abbrev pub named_with : Name → Option Block → List NamedBlock
named_with name None = []
named_with name (Some block) = record { name = name; block = block } ∷ []

abbrev pub named_of : CellValue → List TableLine → Settings → Name × Feature → List NamedBlock
named_of cell table settings entry = named_with entry.0 (block_in cell table settings entry.1)

-- the blocks of all features of the cell that are shown, in the order of their names
abbrev pub named_blocks_in : CellValue → List TableLine → Settings → List NamedBlock
named_blocks_in cell table settings = flat_map (named_of cell table settings) (map.entries cell.features)

-- the list has this block under this name
abbrev pub HasBlock : List NamedBlock → Name → Block → Type 0
HasBlock blocks name block = Contains blocks (record { name = name; block = block })

-- What contracts see of a panel: its scene, and how much that is.
use Rattle.std.specs.Prelude.{ℕ, min, Bool, Option, Some, None, if◌then◌else◌, length, sum_by}
use Rattle.std.specs.Coded.{Coded}
use Rattle.std.specs.Option.{option_map}
use Rattle.std.specs.FinMap as map
use Rattle.chart_model.specs.declared.drawing.Block.{Block}
use Rattle.chart_model.specs.declared.drawing.PanelKey.{PanelKey}
use Rattle.chart_model.specs.contracts.drawing.Block as block
use Rattle.chart_ports.specs.Count.{LAST}
use Rattle.panel_port.specs.PanelKey.{panel_key_cmp, panel_key_code}
use Rattle.panel_port.specs.declared.summary.Summary.{Summary}

-- the blocks that are shown, by their keys
abbrev pub Scene : Type 0
Scene = map.FinMap panel_key_cmp Block

abbrev pub scene_code : Coded Scene
scene_code = map.code panel_key_code block.the_row.coded

-- the scene where it is told, and else none
abbrev pub told_where : Bool → Scene → Option Scene
told_where told scene = if told then Some scene else None

-- a block under a key, in place of the one that was there; where nothing is told, nothing is told of it either
abbrev pub with_block : PanelKey → Block → Option Scene → Option Scene
with_block key block = option_map (λ scene. map.insert scene key block)

-- all blocks but the one under the key
abbrev pub without_block : PanelKey → Option Scene → Option Scene
without_block key = option_map (λ scene. map.remove scene key)

-- the number of items of a block
abbrev pub item_count : Block → ℕ
item_count block = length block.items

-- a number that stays at the last value of 64 bits
abbrev pub up_to_last : ℕ → ℕ
up_to_last number = min number LAST

-- the number of blocks, and of the items of all of them
abbrev pub summary_of : Scene → Summary
summary_of scene = record {
  blocks = up_to_last (map.len scene);
  items = up_to_last (sum_by item_count (map.values scene));
}

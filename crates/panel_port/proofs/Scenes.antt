-- How many items there are when all blocks are counted.
use Rattle.std.proofs.Common.{◌≡◌, ℕ, ◌+◌, ◌≤◌, List, [], map, sum_by, arith, ap, sym, ◌∙◌}
use Rattle.chart_model.specs.declared.drawing.Block.{Block}
use Rattle.chart_model.specs.declared.drawing.PanelKey.{PanelKey}
use Rattle.chart_ports.specs.Count.{LAST}
use Rattle.panel_port.specs.Panel.{item_count, up_to_last}

-- the items of these blocks
abbrev pub items_in : List (PanelKey × Block) → ℕ
items_in entries = sum_by item_count (map (λ entry. entry.1) entries)

-- no block is left: the items so far are all
pub counted-all : (items total : ℕ) (rest : List (PanelKey × Block)) → rest ≡ [] → items ≤ LAST
    → up_to_last (items + items_in rest) ≡ total → items ≡ total
counted-all items total rest none below counted =
    let left : up_to_last (items + 0) ≡ total = ap (λ r. up_to_last (items + items_in r)) (sym none) ∙ counted in
    omega arith

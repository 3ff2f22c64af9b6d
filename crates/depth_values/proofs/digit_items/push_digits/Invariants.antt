use Rattle.std.proofs.Common.{◌≡◌, ◌++◌, List, ℕ, map, drop}
use Rattle.draw_items.specs.Items.{item}
use Rattle.depth_values.specs.Digits.{prefix_of}
use Rattle.depth_values.specs.DigitItems.{symbol_text, digit_items}
use Rattle.depth_values.proofs.digit_items.push_digits.Given as goal

abbrev pub invariant-loop-cell : goal.invariant-loop-cell
invariant-loop-cell l =
    l.items ++ map (λ (cell : List ℕ). item l.target (symbol_text (prefix_of l.depth l.safety_depth) cell)) (drop l.cell-index l.cell-items)
    ≡ l.initial.items ++ digit_items l.target l.depth l.safety_depth

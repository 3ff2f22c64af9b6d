-- The lengths of items' lines.
use Rattle.std.proofs.Common.{ℕ, ◌≤◌, List, [], ◌∷◌, ◌++◌, length, arith}
use Rattle.std.specs.Prelude.{codes}
use Rattle.std.specs.List.{flat_map, join_with_byte}
use Rattle.std.proofs.lemmas.List.{length-append}
use Rattle.chart_model.specs.declared.drawing.Geom.{Geom}
use Rattle.chart_model.specs.declared.drawing.Item.{Item}
use Rattle.draw_list.specs.declared.drawing.Drawn.{Drawn}
use Rattle.draw_list.specs.Print.{number, letter_of, target_text, item_line}
use Rattle.draw_list.specs.Lines.{block_lines}

-- pieces that aren't empty are no more than their bytes
pieces_fit : {X : Type 0} (f : X → List ℕ) → ((x : X) → 1 ≤ length (f x)) → (xs : List X) → length xs ≤ length (flat_map f xs)
pieces_fit f some [] = omega arith
pieces_fit f some (x ∷ xs) =
    omega (arith, some x, pieces_fit f some xs, length-append (f x) (flat_map f xs))

ends : (line : List ℕ) → 1 ≤ length (line ++ 10 ∷ [])
ends line = omega (arith, length-append line (10 ∷ []))

-- an item's line ends with a line feed
item_line-some : (priority : ℕ) (geom : Geom) (rcid : ℕ) (item : Item) → 1 ≤ length (item_line priority geom rcid item)
item_line-some priority geom rcid item =
    ends (join_with_byte 32 (
    codes "item" ∷ number priority ∷ letter_of geom ∷ number rcid ∷ target_text item.target ∷ item.text ∷ []
    ))

pub items_fit : (drawn : Drawn) → length drawn.block.items ≤ length (block_lines drawn)
items_fit drawn =
    pieces_fit (item_line drawn.block.priority drawn.block.geom drawn.rcid) (item_line-some drawn.block.priority drawn.block.geom drawn.rcid)
    drawn.block.items

-- The edges of a feature that are drawn.
use Rattle.std.specs.Prelude.{ℕ, Bool, not, ◌&&◌, ◌==◌, List, map, filter}
use Rattle.chart_model.specs.Codes.{EXTERIOR_CUT, MASKED}
use Rattle.chart_model.specs.declared.name.Name.{Name}
use Rattle.chart_model.specs.declared.record.Pointer.{Pointer}
use Rattle.chart_model.specs.declared.cell.Feature.{Feature}
use Rattle.chart_model.specs.declared.drawing.Item.{Item}
use Rattle.chart_model.specs.declared.drawing.Target.TheVariants.{Edge}
use Rattle.draw_items.specs.Items.{item}

-- the pointer neither masks its edge nor says that the data limit cuts it
abbrev pub is_drawn : Pointer → Bool
is_drawn pointer = not (pointer.mask == MASKED) && not (pointer.usag == EXTERIOR_CUT)

-- the edges of a feature that are drawn, in the order of its pointers, each as often as it is pointed to
abbrev pub drawn_edges : Feature → List Name
drawn_edges feature = map (λ pointer. pointer.target) (filter is_drawn feature.pointers)

-- an instruction on an edge
abbrev pub on_edge : Name → List ℕ → Item
on_edge edge text = item (Edge edge.rcid) text

-- the same instruction on each of some edges
abbrev pub on_edges : List Name → List ℕ → List Item
on_edges edges text = map (λ edge. on_edge edge text) edges

-- Hazards along lines and in areas.
use Rattle.std.specs.Prelude.{Bool, if◌then◌else◌, List, ◌∷◌, codes}
use Rattle.chart_model.specs.declared.cell.Feature.{Feature}
use Rattle.chart_model.specs.declared.drawing.Item.{Item}
use Rattle.draw_items.specs.Items.{whole}
use Rattle.draw_items.specs.Edges.{drawn_edges, on_edges}

-- along a line
abbrev pub line_items : Bool → Feature → List Item
line_items is_danger feature =
    on_edges (drawn_edges feature) (if is_danger then codes "LS(DOTT,2,CHBLK)" else codes "LS(DASH,1,CHBLK)")

-- in an area: the pattern comes before the edges
abbrev pub area_items : Bool → Feature → List Item
area_items is_danger feature =
    if is_danger then whole (codes "AP(FOULAR01)") ∷ on_edges (drawn_edges feature) (codes "LS(DOTT,2,CHBLK)")
    else on_edges (drawn_edges feature) (codes "LS(DASH,2,CHGRD)")

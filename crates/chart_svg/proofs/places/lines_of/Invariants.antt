use Rattle.std.proofs.Common.{◌≡◌, ◌++◌, drop, map, filter}
use Rattle.std.specs.List.{flat_map}
use Rattle.chart_model.specs.declared.record.Pointer.{Pointer}
use Rattle.draw_items.specs.Edges.{is_drawn}
use Rattle.chart_svg.specs.Places.{edge_lines}
use Rattle.chart_svg.proofs.places.lines_of.Given as goal

abbrev pub invariant-loop-pointer : goal.invariant-loop-pointer
invariant-loop-pointer l =
    l.lines ++ flat_map (edge_lines l.cell) (map (λ (p : Pointer). p.target) (filter is_drawn (drop l.pointer-index l.pointer-items)))
    ≡ flat_map (edge_lines l.cell) (map (λ (p : Pointer). p.target) (filter is_drawn l.pointer-items))

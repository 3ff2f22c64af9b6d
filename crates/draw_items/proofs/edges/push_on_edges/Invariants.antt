use Rattle.std.proofs.Common.{◌≡◌, ◌++◌, drop, map, filter}
use Rattle.chart_model.specs.declared.record.Pointer.{Pointer}
use Rattle.draw_items.specs.Edges.{is_drawn, on_edges}
use Rattle.draw_items.proofs.edges.push_on_edges.Given as goal

abbrev pub invariant-loop-pointer : goal.invariant-loop-pointer
invariant-loop-pointer l =
    l.items ++ on_edges (map (λ (p : Pointer). p.target) (filter is_drawn (drop l.pointer-index l.pointer-items))) l.text
    ≡ l.initial.items ++ on_edges (map (λ (p : Pointer). p.target) (filter is_drawn l.feature.pointers)) l.text

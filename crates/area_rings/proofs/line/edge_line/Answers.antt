use Rattle.std.proofs.Common.{sym, ◌∙◌, ap, Some, List, ◌∷◌, map}
use Rattle.plane_geometry.specs.declared.point.Pt.{Pt}
use Rattle.area_rings.specs.Edge.{point_of}
use Rattle.area_rings.proofs.Lines.{passed, ended, line_of_edge}
use Rattle.area_rings.proofs.line.edge_line.Goals as goal

pub returns : goal.returns
returns c =
    let edge = c.in-Some.edge in
    let line = line_of_edge c.args.cell.now c.args.edge c.args.reverse _ c.in-Some.ensures in
    let before = edge.start ∷ map point_of (passed edge.reversed edge.inner.now) in
    let points = ended c.in_ok-points.points.items c.push_way.new.points.items c.push.new.self.items before edge.end c.in_ok-push_way.ensures c.in_ok-points.ensures.items c.in_ok-push.ensures.items in
    ap (λ (l : List Pt). Some l) (c.from_vec.ensures ∙ points) ∙ sym line

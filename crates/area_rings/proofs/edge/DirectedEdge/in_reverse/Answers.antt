use Rattle.area_rings.proofs.Lines.{back}
use Rattle.area_rings.proofs.edge.DirectedEdge.in_reverse.Goals as goal

pub returns : goal.returns
returns c =
    let e = back c.args.self.start c.args.self.end c.args.self.reversed c.args.self.inner.now in
    λ i. record { from = c.args.self.to; to = c.args.self.from; points = e i }

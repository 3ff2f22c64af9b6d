use Rattle.std.proofs.lemmas.Result.{on_ok_weaker}
use Rattle.area_rings.proofs.Lines.{pushed, passed_back, passed_on}
use Rattle.area_rings.proofs.line.push_way.Goals as goal

pub returns-then-edge : goal.returns-then-edge
returns-then-edge c =
    let edge = c.args.edge.now in
    on_ok_weaker c.push_backward.result (pushed c.args.points.now.items _ _ edge.start edge.end edge.reversed edge.inner.now _ (passed_back edge.reversed edge.inner.now c.if-edge.true) c.in_ok-push.ensures.items) c.push_backward.ensures

pub returns-else-edge : goal.returns-else-edge
returns-else-edge c =
    let edge = c.args.edge.now in
    on_ok_weaker c.push_forward.result (pushed c.args.points.now.items _ _ edge.start edge.end edge.reversed edge.inner.now _ (passed_on edge.reversed edge.inner.now c.if-edge.false) c.in_ok-push.ensures.items) c.push_forward.ensures

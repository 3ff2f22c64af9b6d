use Rattle.std.proofs.Common.{◌≡◌, pos, None, take, subst, arith}
use Rattle.std.proofs.lemmas.List.{take_all}
use Rattle.std.proofs.lemmas.List.Elements.{All-more, All-weaker}
use Rattle.chart_model.specs.declared.record.Coord.{Coord}
use Rattle.plane_bounds.specs.Bounds.{IsIn}
use Rattle.plane_bounds.proofs.Growth.{still_in}
use Rattle.area_rings.specs.Edge.{point_of}
use Rattle.route_check.proofs.target.bounds_of_coords.Goals as goal

pub loop-coord-preserved : goal.loop-coord-preserved
loop-coord-preserved c =
    let i = c.loop-coord.coord-index in
    let coords = c.args.coords.now in
    let grown = c.with-bounds.result in
    let nowhere : Coord = record { x = pos 0; y = pos 0; z = None } in
    All-more (λ coord. IsIn grown (point_of coord)) coords i nowhere c.loop-coord-test.true
    (All-weaker (λ coord. IsIn c.loop-coord.bounds (point_of coord)) (λ coord. IsIn grown (point_of coord)) (λ coord q. still_in c.loop-coord.bounds grown (point_of coord) c.with-bounds.ensures.kept q) (take i coords) c.loop-coord.invariant)
    (subst (IsIn grown) c.point.ensures c.with-bounds.ensures.there)

pub returns : goal.returns
returns c =
    let all : take c.loop-coord.coord-index c.args.coords.now ≡ c.args.coords.now = take_all c.loop-coord.coord-index c.args.coords.now (omega arith) in
    rw all at c.loop-coord.invariant

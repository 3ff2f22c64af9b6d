use Rattle.std.proofs.Common.{pos, w64, to_z, of_z, arith, ◌≡◌}
use Rattle.std.proofs.lemmas.Int.{ints}
use Rattle.route_geometry.proofs.Forms.{tested}
use Rattle.route_geometry.proofs.Reached.{reached}
use Rattle.route_geometry.proofs.side.Side.is_reached.Goals as goal

pub returns : goal.returns
returns c = λ p h.
    let most = reached c.args.self p h in
    let same : to_z w64 (of_z w64 c.most.result) ≡ c.most.result = omega (arith, ints, c.most.ensures) in
    tested (pos 0) (to_z w64 (of_z w64 c.most.result)) (omega (arith, ints, most, same, c.most.ensures))

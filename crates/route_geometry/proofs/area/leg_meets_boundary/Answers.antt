use Rattle.std.proofs.Common.{sym, ◌∙◌, refl, arith}
use Rattle.std.proofs.lemmas.Bool.{false≢true}
use Rattle.route_geometry.specs.Leg.{MeetsSegment}
use Rattle.route_geometry.proofs.Walk.{found_in_ring, passed_ring, rings_walked}
use Rattle.route_geometry.proofs.area.leg_meets_boundary.Goals as goal

pub returns-then-meets_ring : goal.returns-then-meets_ring
returns-then-meets_ring c =
    let ring = rw c.as_slice.ensures at c.meets_ring.ensures in
    let met = found_in_ring (λ s. MeetsSegment c.args.leg.now s.0 s.1) c.args.rings.now c.loop-ring.ring-index c.ring-item.result _ c.loop-ring.invariant c.loop-ring-test.true c.ring-item.is (ring.0 c.if-meets_ring.true) in
    (λ _. met, λ _. refl)

pub loop-ring-preserved : goal.loop-ring-preserved
loop-ring-preserved c =
    let ring = rw c.as_slice.ensures at c.meets_ring.ensures in
    passed_ring (λ s. MeetsSegment c.args.leg.now s.0 s.1) c.args.rings.now c.loop-ring.ring-index c.ring-item.result _ c.loop-ring.invariant c.loop-ring-test.true c.ring-item.is (λ met. false≢true (sym c.if-meets_ring.false ∙ ring.1 met))

pub returns : goal.returns
returns c =
    let off = rings_walked (λ s. MeetsSegment c.args.leg.now s.0 s.1) c.args.rings.now c.loop-ring.ring-index _ c.loop-ring.invariant (omega arith) in
    (λ e. absurd (false≢true e), λ met. absurd (off met))

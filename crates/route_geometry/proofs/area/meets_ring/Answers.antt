use Rattle.std.proofs.Common.{sym, ◌∙◌, refl, arith, pos}
use Rattle.std.proofs.lemmas.Bool.{false≢true}
use Rattle.plane_geometry.specs.declared.point.Pt.{Pt}
use Rattle.route_geometry.specs.Leg.{MeetsSegment}
use Rattle.route_geometry.proofs.Walk.{round_ring, found_on_ring, passed_on_ring, ring_walked}
use Rattle.route_geometry.proofs.area.meets_ring.Goals as goal

pub loop-to-init : goal.loop-to-init
loop-to-init c =
    round_ring (λ s. MeetsSegment c.args.leg.now s.0 s.1) c.in-Some.last.now c.args.ring.now (sym c.in-Some.ensures.value)

pub returns-then-leg_meets_segment : goal.returns-then-leg_meets_segment
returns-then-leg_meets_segment c =
    let origin : Pt = record { x = pos 0; y = pos 0 } in
    let met = found_on_ring (λ s. MeetsSegment c.args.leg.now s.0 s.1) c.loop-to.from origin c.args.ring.now c.loop-to.to-index _ c.loop-to.invariant c.loop-to-test.true (c.leg_meets_segment.ensures.0 c.if-leg_meets_segment.true) in
    (λ _. met, λ _. refl)

pub loop-to-preserved : goal.loop-to-preserved
loop-to-preserved c =
    let origin : Pt = record { x = pos 0; y = pos 0 } in
    passed_on_ring (λ s. MeetsSegment c.args.leg.now s.0 s.1) c.loop-to.from origin c.args.ring.now c.loop-to.to-index _ c.loop-to.invariant c.loop-to-test.true (λ met. false≢true (sym c.if-leg_meets_segment.false ∙ c.leg_meets_segment.ensures.1 met))

pub returns : goal.returns
returns c =
    let off = ring_walked (λ s. MeetsSegment c.args.leg.now s.0 s.1) c.loop-to.from c.args.ring.now c.loop-to.to-index _ c.loop-to.invariant (omega arith) in
    (λ e. absurd (false≢true e), λ met. absurd (off met))

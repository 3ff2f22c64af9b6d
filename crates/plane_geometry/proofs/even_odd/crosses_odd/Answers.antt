use Rattle.std.proofs.Common.{sym, ◌∙◌, refl, arith, pos}
use Rattle.std.proofs.lemmas.Bool.{false≢true}
use Rattle.plane_geometry.specs.declared.point.Pt.{Pt}
use Rattle.plane_geometry.proofs.Walk.{remains_ring, remains_none, remains_odd, walk_found, walk_next, walk_end}
use Rattle.plane_geometry.proofs.even_odd.crosses_odd.Goals as goal

pub loop-to-init : goal.loop-to-init
loop-to-init c =
    remains_ring c.args.p c.in-Some.last.now c.args.ring.now (sym c.in-Some.ensures.value)

pub returns-then-on_segment-clause-on : goal.returns-then-on_segment-clause-on
returns-then-on_segment-clause-on c =
    let origin : Pt = record { x = pos 0; y = pos 0 } in
    let found = walk_found c.args.p c.loop-to.from origin c.loop-to.odd c.args.ring.now c.loop-to.to-index _ c.loop-to.invariant c.loop-to-test.true (c.on_segment.ensures.0 c.if-on_segment.true) in
    (λ _. found, λ _. refl)

pub loop-to-preserved : goal.loop-to-preserved
loop-to-preserved c =
    let origin : Pt = record { x = pos 0; y = pos 0 } in
    walk_next c.args.p c.loop-to.from origin c.loop-to.odd c.crosses_ray-odd.result c.args.ring.now c.loop-to.to-index _ c.loop-to.invariant c.loop-to-test.true (λ on. false≢true (sym c.if-on_segment.false ∙ c.on_segment.ensures.1 on)) c.crosses_ray-odd.ensures

pub returns-clause-on : goal.returns-clause-on
returns-clause-on c =
    let end = walk_end c.args.p c.loop-to.from c.loop-to.odd c.args.ring.now c.loop-to.to-index _ c.loop-to.invariant (omega arith) in
    (λ e. absurd (false≢true (sym e)), λ on. absurd (remains_none c.args.p c.loop-to.odd _ end on))

pub returns-clause-odd : goal.returns-clause-odd
returns-clause-odd c =
    let end = walk_end c.args.p c.loop-to.from c.loop-to.odd c.args.ring.now c.loop-to.to-index _ c.loop-to.invariant (omega arith) in
    remains_odd c.args.p c.loop-to.odd _ end

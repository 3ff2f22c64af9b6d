use Rattle.std.proofs.Common.{sym, refl, arith, inl, inr}
use Rattle.std.proofs.lemmas.Bool.{false≢true}
use Rattle.plane_geometry.proofs.Walk.{remains_none, remains_odd, ring_found, ring_next, rings_end}
use Rattle.plane_geometry.proofs.even_odd.inside_even_odd.Goals as goal

pub returns-in-None : goal.returns-in-None
returns-in-None c =
    let on = rw c.as_slice.ensures at (c.in-None.ensures.on.0 refl) in
    let found = ring_found c.args.p c.loop-ring.odd c.args.rings.now c.loop-ring.ring-index c.ring-item.result _ c.loop-ring.invariant c.loop-ring-test.true c.ring-item.is on in
    (λ _. inl found, λ _. refl)

pub loop-ring-preserved : goal.loop-ring-preserved
loop-ring-preserved c =
    let on = rw c.as_slice.ensures at c.in-Some.ensures.on in
    let odd = rw c.as_slice.ensures at c.in-Some.ensures.odd in
    ring_next c.args.p c.loop-ring.odd c.in-Some.crossed c.args.rings.now c.loop-ring.ring-index c.ring-item.result _ c.loop-ring.invariant c.loop-ring-test.true c.ring-item.is (λ h. absurd (false≢true (sym (on.1 h)))) odd

pub returns : goal.returns
returns c =
    let end = rings_end c.args.p c.loop-ring.odd c.args.rings.now c.loop-ring.ring-index _ c.loop-ring.invariant (omega arith) in
    let odd = remains_odd c.args.p c.loop-ring.odd _ end in
    (λ h. inr (odd.0 h), λ h. elim h [ inl on ↦ absurd (remains_none c.args.p c.loop-ring.odd _ end on) | inr crossed ↦ odd.1 crossed ])

use Rattle.std.proofs.Common.{◌≡◌, ◌<◌, ◌≤◌, refl, sym, ◌∙◌, ◌++◌, ◌∷◌, [], get_or, length, arith}
use Rattle.std.proofs.lemmas.List.{take_more, take_all}
use Rattle.std.proofs.lemmas.Option.{get_or_from_slice_get}
use Rattle.depth_values.proofs.same.are_same_rings.Goals as goal

pub loop-place-init : goal.loop-place-init
loop-place-init c = refl

pub loop-place-preserved : goal.loop-place-preserved
loop-place-preserved c =
    let one = c.args.one.now in
    let other = c.args.other.now in
    let place = c.loop-place.place in
    let ring = c.index-one-place.result in
    let within : place < length other = omega (arith, c.loop-place-test.true, c.if-one-other.false) in
    let same : get_or one place ring ≡ get_or other place ring =
    sym c.index-one-place.is ∙ sym (get_or_from_slice_get other place ring ring (c.stands_at.ensures c.if-not-stands_at.false)) in
    take_more one place ring c.loop-place-test.true
    ∙ (λ i. c.loop-place.invariant i ++ same i ∷ [])
    ∙ sym (take_more other place ring within)

pub returns : goal.returns
returns c = λ so.
    let past : length c.args.other.now ≤ c.loop-place.place = omega (arith, c.loop-place-test.false, c.if-one-other.false) in
    sym (take_all c.loop-place.place c.args.one.now c.loop-place-test.false)
    ∙ c.loop-place.invariant
    ∙ take_all c.loop-place.place c.args.other.now past

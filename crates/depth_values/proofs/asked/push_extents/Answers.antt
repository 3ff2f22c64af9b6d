use Rattle.std.proofs.Common.{arith}
use Rattle.depth_values.proofs.Asking.{places_none_yet, places_next, places_all}
use Rattle.depth_values.proofs.asked.push_extents.Goals as goal

pub loop-place-init : goal.loop-place-init
loop-place-init c = places_none_yet c.args.points.now c.args.extents.now c.args.places.now c.args.held.now.items

pub loop-place-preserved : goal.loop-place-preserved
loop-place-preserved c =
    places_next c.args.points.now c.args.extents.now c.args.places.now c.loop-place.place-index _ c.args.held.now.items c.loop-place.held.items c.push_extent.new.held.items
    c.loop-place-test.true c.loop-place.invariant c.in_ok-push_extent.ensures

pub returns : goal.returns
returns c =
    places_all c.args.points.now c.args.extents.now c.args.places.now c.loop-place.place-index c.args.held.now.items c.loop-place.held.items
    (omega (arith, c.loop-place-test.false)) c.loop-place.invariant

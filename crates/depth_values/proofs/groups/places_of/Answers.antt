use Rattle.std.proofs.Common.{arith}
use Rattle.std.proofs.lemmas.List.Sorted.{Contains-permutation}
use Rattle.depth_values.proofs.Grouped.{counted_next}
use Rattle.depth_values.proofs.groups.places_of.Goals as goal

pub loop-place-preserved : goal.loop-place-preserved
loop-place-preserved c = counted_next c.loop-place.place c.loop-place.places.items c.push.new.self.items c.in_ok-push.ensures.items c.loop-place.invariant

pub returns : goal.returns
returns c = λ k lt.
    Contains-permutation c.loop-place.places.items c.sort_by_key.new.self.items k c.sort_by_key.ensures.permutation
    (c.loop-place.invariant k (omega (arith, lt, c.loop-place-test.false)))

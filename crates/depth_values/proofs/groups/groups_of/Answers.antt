use Rattle.std.proofs.Common.{◌≡◌, ℕ, ◌<◌, List, length, sym, subst, arith}
use Rattle.std.specs.List.{Contains}
use Rattle.depth_values.proofs.Grouped.{empty_false, empty_true, covered_none_yet, covered_next, covered_all}
use Rattle.depth_values.proofs.groups.groups_of.Goals as goal

pub loop-rest-init : goal.loop-rest-init
loop-rest-init c = covered_none_yet c.args.extents.now _ c.new-groups.result.items c.new-groups.ensures.items

pub loop-rest-preserved : goal.loop-rest-preserved
loop-rest-preserved c =
    covered_next c.args.extents.now _ c.loop-rest.rest.now _ _ c.in_ok-group.group c.loop-rest.groups.items c.push.new.self.items c.split_at.ensures.by_index.0 c.in_ok-group.ensures
    c.in_ok-push.ensures.items c.loop-rest.invariant

pub loop-rest-smaller : goal.loop-rest-smaller
loop-rest-smaller c =
    let some : 0 < length c.loop-rest.rest.now = empty_false _ c.loop-rest-test.ensures in
    let left = c.split_at.ensures.back_len in
    omega arith

pub returns : goal.returns
returns c =
    let none : length c.loop-rest.rest.now ≡ 0 = empty_true _ c.loop-rest-test.ensures in
    covered_all c.args.extents.now c.as_slice-rest.result.now c.loop-rest.rest.now c.loop-rest.groups.items
    (λ k lt. subst (λ (l : List ℕ). Contains l k) (sym c.as_slice-rest.ensures.value) (c.in_ok-places.ensures k lt)) none c.loop-rest.invariant

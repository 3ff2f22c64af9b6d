use Rattle.std.proofs.Common.{◌≡◌, ◌<◌, length, List, sym, ◌∙◌, ap, false, eqb, arith}
use Rattle.std.specs.Option.{option_map}
use Rattle.std.proofs.lemmas.Bool.{eqb-true, eqb-false}
use Rattle.chart_model.specs.declared.record.Pointer.{Pointer}
use Rattle.area_rings.specs.Direction.{value_of}
use Rattle.area_rings.specs.Rings.{rings_of}
use Rattle.area_rings.proofs.Edges.{blank}
use Rattle.area_rings.proofs.Traces.{adds_found, no_pointers}
use Rattle.area_rings.proofs.RingsSoFar.{at_first, one_more, stopped, astray, left_open, all_closed, none_open}
use Rattle.area_rings.proofs.ring.rings.Goals as goal

some_pointers : (pointers : List Pointer) → eqb (length pointers) 0 ≡ false → 0 < length pointers
some_pointers pointers e = let h = eqb-false _ _ e in omega arith

pub returns-then-is_empty : goal.returns-then-is_empty
returns-then-is_empty c =
    let none = eqb-true _ _ (sym c.is_empty.ensures ∙ c.if-is_empty.true) in
    sym (ap (rings_of c.args.cell.now) (sym c.as_slice-pointers.ensures) ∙ no_pointers c.args.cell.now _ none)

pub loop-pointer-init : goal.loop-pointer-init
loop-pointer-init c =
    at_first c.args.cell.now c.new-rings.result c.new-points.result.items c.as_slice-pointers.result.now c.new-rings.ensures c.new-points.ensures.items (some_pointers _ (sym c.is_empty.ensures ∙ c.if-is_empty.false))

pub returns-in_default : goal.returns-in_default
returns-in_default c =
    let line = sym c.edge.ensures ∙ ap (option_map value_of) c.in_default.is in
    sym (ap (rings_of c.args.cell.now) (sym c.as_slice-pointers.ensures) ∙ stopped c.args.cell.now c.loop-pointer.open c.loop-pointer.rings c.loop-pointer.points.items c.as_slice-pointers.result.now c.loop-pointer.pointer-index blank _ c.loop-pointer.invariant c.loop-pointer-test.true line)

pub returns-in_default-follow : goal.returns-in_default-follow
returns-in_default-follow c =
    let line = sym c.edge.ensures ∙ ap (option_map value_of) c.in-Some.is in
    let stray = sym c.follow.ensures ∙ c.in_default-follow.is in
    sym (ap (rings_of c.args.cell.now) (sym c.as_slice-pointers.ensures) ∙ astray c.args.cell.now c.loop-pointer.open c.loop-pointer.rings c.loop-pointer.points.items c.as_slice-pointers.result.now c.loop-pointer.pointer-index blank _ _ c.loop-pointer.invariant c.loop-pointer-test.true line stray)

pub loop-pointer-preserved : goal.loop-pointer-preserved
loop-pointer-preserved c =
    let none = none_open c.in-Some-follow.next c.is_none.result c.is_none.ensures in
    let kept = rw (none, c.in_ok-push_way.ensures) at c.in_ok-keep_closed.ensures.rings in
    let points = rw (none, c.in_ok-push_way.ensures) at c.in_ok-keep_closed.ensures.points in
    one_more c.args.cell.now c.loop-pointer.open c.in-Some-follow.next c.loop-pointer.rings c.keep_closed.new.rings c.loop-pointer.points.items c.keep_closed.new.points.items c.as_slice-pointers.result.now c.loop-pointer.pointer-index blank _ _ c.loop-pointer.invariant c.loop-pointer-test.true
    (adds_found _ _ _ _ _ _ _ c.edge.ensures c.in-Some.is c.follow.ensures c.in-Some-follow.is) kept points

pub returns-then-is_some : goal.returns-then-is_some
returns-then-is_some c =
    sym (ap (rings_of c.args.cell.now) (sym c.as_slice-pointers.ensures) ∙ left_open c.args.cell.now c.loop-pointer.open c.loop-pointer.rings c.loop-pointer.points.items c.as_slice-pointers.result.now c.loop-pointer.pointer-index _ c.loop-pointer.invariant (omega arith) (sym c.is_some.ensures ∙ c.if-is_some.true))

pub returns : goal.returns
returns c =
    sym (ap (rings_of c.args.cell.now) (sym c.as_slice-pointers.ensures) ∙ all_closed c.args.cell.now c.loop-pointer.open c.loop-pointer.rings c.loop-pointer.points.items c.as_slice-pointers.result.now c.loop-pointer.pointer-index _ c.loop-pointer.invariant (omega arith) (sym c.is_some.ensures ∙ c.if-is_some.false))

use Rattle.std.proofs.Common.{◌≡◌, ◌<◌, length, List, sym, ◌∙◌, ap, refl, true, false, Bool, is_some, eqb, not, arith}
use Rattle.std.specs.Option.{option_map}
use Rattle.std.proofs.lemmas.Bool.{false≢true, eqb-true, eqb-false}
use Rattle.chart_model.specs.declared.record.Pointer.{Pointer}
use Rattle.area_rings.specs.Direction.{value_of}
use Rattle.area_rings.proofs.Edges.{blank}
use Rattle.area_rings.proofs.Traces.{adds_found, no_line_left, broken_left, remains_more, has_rings, ends_closed, no_pointers}
use Rattle.area_rings.proofs.presence.all_rings.Goals as goal

pub returns-then-is_empty : goal.returns-then-is_empty
returns-then-is_empty c =
    let none = eqb-true _ _ (sym c.is_empty.ensures ∙ c.if-is_empty.true) in
    (λ e. absurd (false≢true e), λ h. absurd (false≢true (sym (ap is_some (no_pointers c.args.cell.now c.args.pointers.now none)) ∙ h)))

pub loop-pointer-init : goal.loop-pointer-init
loop-pointer-init c = record { same = refl }

pub returns-in_default : goal.returns-in_default
returns-in_default c =
    let some : 0 < length c.args.pointers.now = omega arith in
    let line = sym c.edge.ensures ∙ ap (option_map value_of) c.in_default.is in
    let none = no_line_left c.args.cell.now c.loop-pointer.open c.args.pointers.now c.loop-pointer.pointer-index blank c.args.pointers.now c.loop-pointer.invariant c.loop-pointer-test.true line in
    (λ e. absurd (false≢true e), λ h. absurd (none (sym (has_rings c.args.cell.now c.args.pointers.now some) ∙ h)))

pub returns-in_default-follow : goal.returns-in_default-follow
returns-in_default-follow c =
    let some : 0 < length c.args.pointers.now = omega arith in
    let line = sym c.edge.ensures ∙ ap (option_map value_of) c.in-Some.is in
    let broken = sym c.follow.ensures ∙ c.in_default-follow.is in
    let none = broken_left c.args.cell.now c.loop-pointer.open c.args.pointers.now c.loop-pointer.pointer-index blank c.args.pointers.now _ c.loop-pointer.invariant c.loop-pointer-test.true line broken in
    (λ e. absurd (false≢true e), λ h. absurd (none (sym (has_rings c.args.cell.now c.args.pointers.now some) ∙ h)))

pub loop-pointer-preserved : goal.loop-pointer-preserved
loop-pointer-preserved c =
    remains_more c.args.cell.now c.loop-pointer.open c.in-Some-follow.next c.args.pointers.now c.loop-pointer.pointer-index blank c.args.pointers.now _ c.loop-pointer.invariant c.loop-pointer-test.true
    (adds_found _ _ _ _ _ _ _ c.edge.ensures c.in-Some.is c.follow.ensures c.in-Some-follow.is)

pub returns : goal.returns
returns c =
    let some : 0 < length c.args.pointers.now = not_none c.args.pointers.now (sym c.is_empty.ensures ∙ c.if-is_empty.false) in
    let e = opposite _ _ c.is_none.ensures ∙ ends_closed c.args.cell.now c.loop-pointer.open c.args.pointers.now c.loop-pointer.pointer-index c.args.pointers.now c.loop-pointer.invariant (omega arith) some in
    (λ h. sym e ∙ h, λ h. e ∙ h)
  where
    opposite : (a b : Bool) → a ≡ not b → b ≡ not a
    opposite a true e = sym (ap not e)
    opposite a false e = sym (ap not e)

    not_none : (pointers : List Pointer) → eqb (length pointers) 0 ≡ false → 0 < length pointers
    not_none pointers e = let h = eqb-false _ _ e in omega arith

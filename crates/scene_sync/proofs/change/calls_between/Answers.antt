use Rattle.std.proofs.Common.{◌≡◌, List, true, false, rules, ap, sym, subst, ◌∙◌}
use Rattle.std.specs.Option.{option_copied}
use Rattle.scene_sync.specs.declared.call.Call.{Call}
use Rattle.scene_sync.specs.Calls.{kept_at}
use Rattle.scene_sync.specs.Same.{same_blocks}
use Rattle.scene_sync.specs.Walk.{left_of}
use Rattle.scene_sync.proofs.Plans.{Continues, begins-at, ends, goes-on-differing, goes-on-equal, least-first, nearer, none-left}
use Rattle.scene_sync.proofs.change.calls_between.Goals as goal

pub loop-key-init : goal.loop-key-init
loop-key-init c =
    begins-at c.args.shown.now c.args.target.now _ _ _ c.new-calls.ensures.items c.over-old.ensures c.over-new.ensures

pub pass-before-requires : goal.pass-before-requires
pass-before-requires c =
    (least-first (left_of c.loop-key.old) (left_of c.loop-key.new) c.in-Some.key (sym c.in-Some.ensures)).0

pub pass-after-requires : goal.pass-after-requires
pass-after-requires c =
    (least-first (left_of c.loop-key.old) (left_of c.loop-key.new) c.in-Some.key (sym c.in-Some.ensures)).1

pub loop-key-preserved-in-Continue-1 : goal.loop-key-preserved-in-Continue-1
loop-key-preserved-in-Continue-1 c =
    let apart : same_blocks (option_copied c.pass-before.result) (option_copied c.pass-after.result) ≡ false = search rules in
    subst (λ (calls : List Call). Continues c.args.shown.now c.args.target.now calls c.pass-before.new.self c.pass-after.new.self)
    (sym c.in_ok-push.ensures.items)
    (goes-on-differing c.args.shown.now c.args.target.now c.loop-key.calls.items c.in-Some.key _ _ _ c.loop-key.new _ _
    c.call_at.result (c.call_at.ensures ∙ ap (λ place. kept_at c.in-Some.key place (option_copied c.pass-after.result)) c.place-place.ensures)
    c.pass-before.ensures.passed c.pass-after.ensures.passed c.pass-after.ensures.entries c.pass-before.ensures.below
    c.pass-after.ensures.below apart c.loop-key.invariant)

pub loop-key-smaller : goal.loop-key-smaller
loop-key-smaller c =
    nearer c.in-Some.key _ _ _ _ _ _ c.pass-before.ensures.passed c.pass-after.ensures.passed c.pass-before.ensures.below
    c.pass-after.ensures.below (sym c.in-Some.ensures)

pub loop-key-preserved : goal.loop-key-preserved
loop-key-preserved c =
    let alike : same_blocks (option_copied c.pass-before.result) (option_copied c.pass-after.result) ≡ true = search rules in
    goes-on-equal c.args.shown.now c.args.target.now c.loop-key.calls.items c.in-Some.key _ _ _ _ _ _
    c.pass-before.ensures.passed c.pass-after.ensures.passed c.pass-after.ensures.entries c.pass-before.ensures.below
    c.pass-after.ensures.below alike c.loop-key.invariant

pub returns : goal.returns
returns c =
    let none = none-left (left_of c.loop-key.old) (left_of c.loop-key.new) (sym c.least_key.ensures ∙ c.in_default.is) in
    ends c.args.shown.now c.args.target.now c.loop-key.calls.items _ _ none.0 none.1 c.loop-key.invariant

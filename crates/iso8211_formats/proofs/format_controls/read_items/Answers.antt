use Rattle.std.proofs.Common.{rules, ◌≡◌, sym, ap, ◌∙◌, eqb, List, Some, None}
use Rattle.std.specs.List.{slice_split}
use Rattle.iso8211_formats.specs.declared.format.Format.{Format}
use Rattle.iso8211_formats.specs.Reading.{cut_at, items_of, at_most, behind}
use Rattle.iso8211_formats.proofs.ItemsWithinLimit.{items_more, items_more_bad, items_last, behind-nil}
use Rattle.iso8211_formats.proofs.format_controls.read_items.Goals as goal

pub loop-item-init : goal.loop-item-init
loop-item-init c =
    let all = items_of (slice_split (λ b. eqb b 44) c.args.text.now) in
    ap (λ (fs : List Format). at_most 64 (behind fs all)) c.new-formats.ensures ∙ ap (at_most 64) (behind-nil all)

pub returns-then-not-push_item : goal.returns-then-not-push_item
returns-then-not-push_item c =
    let cut : cut_at 44 c.loop-item.rest.now ≡ Some (c.in-Some.item.now, c.in-Some.after.now) = search rules in
    sym (items_more_bad 64 c.loop-item.formats.items c.loop-item.rest.now _ cut (sym c.if-not-push_item.ensures)) ∙ c.loop-item.invariant

pub loop-item-preserved : goal.loop-item-preserved
loop-item-preserved c =
    let cut : cut_at 44 c.loop-item.rest.now ≡ Some (c.in-Some.item.now, c.in-Some.after.now) = search rules in
    sym (items_more 64 c.loop-item.formats.items c.push_item.new.formats.items c.loop-item.rest.now _ cut (sym c.if-not-push_item.ensures)) ∙ c.loop-item.invariant

pub returns-then-push_item : goal.returns-then-push_item
returns-then-push_item c =
    let cut : cut_at 44 c.loop-item.rest.now ≡ None = search rules in
    c.if-push_item.ensures ∙ sym (items_last 64 c.loop-item.formats.items c.loop-item.rest.now cut) ∙ c.loop-item.invariant

pub returns-else-push_item : goal.returns-else-push_item
returns-else-push_item c =
    let cut : cut_at 44 c.loop-item.rest.now ≡ None = search rules in
    c.if-push_item.ensures ∙ sym (items_last 64 c.loop-item.formats.items c.loop-item.rest.now cut) ∙ c.loop-item.invariant

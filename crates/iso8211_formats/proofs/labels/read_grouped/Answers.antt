use Rattle.std.proofs.Common.{◌≡◌, ◌+◌, ◌++◌, ◌∷◌, [], List, ℕ, arith, take, sym, ap, ◌∙◌}
use Rattle.iso8211_formats.specs.Reading.{grouped_labels}
use Rattle.iso8211_formats.proofs.LabelSteps.{after, grouped_done, grouped_next, grouped_bad}
use Rattle.iso8211_formats.proofs.labels.read_grouped.Goals as goal

pub returns-in-Some : goal.returns-in-Some
returns-in-Some c =
    sym (grouped_done c.loop-group.labels.items c.push_plain.new.labels.items c.loop-group.place c.loop-group.rest.now c.in-Some.group.now _ c.in-Some.ensures.found.0 c.push_plain.ensures c.loop-group.invariant.same)

pub returns-in_default-after_label : goal.returns-in_default-after_label
returns-in_default-after_label c =
    sym (grouped_bad c.loop-group.labels.items c.loop-group.place c.loop-group.rest.now _ c.in_default.ensures.none (sym c.in_default-after_label.ensures.parts) c.loop-group.invariant.same)

pub loop-group-preserved : goal.loop-group-preserved
loop-group-preserved c =
    let labels = c.loop-group.labels.items in
    let rest = c.loop-group.rest.now in
    let new : c.push.new.self.items ≡ labels ++ take 4 rest ∷ [] =
    c.push.ensures.items ∙ ap (λ (l : List ℕ). labels ++ l ∷ []) c.label_at-label.ensures
    in
    record {
      same = ap (λ (ls : List (List ℕ)). after ls (grouped_labels (c.loop-group.place + 1) c.in-Some-after_label.after.now)) new ∙ grouped_next labels c.loop-group.place rest _ _ c.in_default.ensures.none (sym c.in-Some-after_label.ensures.parts) c.loop-group.invariant.same;
      counted = omega (arith, c.push.ensures.len, c.loop-group.invariant.counted);
      room = omega (arith, c.push.ensures.len, c.in-Some-after_label.ensures.shorter, c.loop-group.invariant.room);
    }

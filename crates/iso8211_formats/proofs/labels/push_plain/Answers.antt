use Rattle.std.proofs.Common.{◌≡◌, ◌++◌, ◌∷◌, [], List, ℕ, eqb, length, arith, take, true, Some, sym, ap, ◌∙◌}
use Rattle.std.proofs.lemmas.Bool.{eqb-true}
use Rattle.std.proofs.lemmas.List.{take_all}
use Rattle.iso8211_formats.specs.Reading.{plain_labels}
use Rattle.iso8211_formats.proofs.LabelSteps.{pushed, plain_next, plain_last, is_plain_next, is_plain_last}
use Rattle.iso8211_formats.proofs.labels.push_plain.Goals as goal

pub loop-after-preserved : goal.loop-after-preserved
loop-after-preserved c =
    let labels = c.loop-after.labels.items in
    let rest = c.loop-after.rest.now in
    let cut = sym c.in-Some.ensures.parts in
    let new : c.push.new.self.items ≡ labels ++ take 4 rest ∷ [] =
    c.push.ensures.items ∙ ap (λ (l : List ℕ). labels ++ l ∷ []) c.label_at-label.ensures
    in
    record {
      same = ap (λ (ls : List (List ℕ)). pushed ls (plain_labels c.in-Some.after.now)) new ∙ plain_next labels rest _ _ cut c.loop-after.invariant.same;
      plain = sym (is_plain_next rest _ cut) ∙ c.loop-after.invariant.plain;
      room = omega (arith, c.push.ensures.len, c.in-Some.ensures.shorter, c.loop-after.invariant.room);
    }

pub label_at-last-requires : goal.label_at-last-requires
label_at-last-requires c =
    let rest = c.loop-after.rest.now in
    let test : eqb (length rest) 4 ≡ true = sym (is_plain_last rest (sym c.in_default.ensures.parts)) ∙ c.loop-after.invariant.plain in
    omega (arith, eqb-true (length rest) 4 test)

pub returns : goal.returns
returns c =
    let labels = c.loop-after.labels.items in
    let rest = c.loop-after.rest.now in
    let last = sym c.in_default.ensures.parts in
    let test : eqb (length rest) 4 ≡ true = sym (is_plain_last rest last) ∙ c.loop-after.invariant.plain in
    let four = eqb-true (length rest) 4 test in
    let new : c.push-2.new.self.items ≡ labels ++ rest ∷ [] =
    c.push-2.ensures.items ∙ ap (λ (l : List ℕ). labels ++ l ∷ []) (c.label_at-last.ensures ∙ take_all 4 rest (omega (arith, four)))
    in
    plain_last labels rest _ last four c.loop-after.invariant.same ∙ ap (λ (ls : List (List ℕ)). Some ls) (sym new)

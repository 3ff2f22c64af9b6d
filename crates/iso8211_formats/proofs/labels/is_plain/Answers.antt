use Rattle.std.proofs.Common.{sym, ◌∙◌}
use Rattle.iso8211_formats.proofs.LabelSteps.{is_plain_next, is_plain_last}
use Rattle.iso8211_formats.proofs.labels.is_plain.Goals as goal

pub loop-after-preserved : goal.loop-after-preserved
loop-after-preserved c =
    sym (is_plain_next c.loop-after.rest.now _ (sym c.in-Some.ensures.parts)) ∙ c.loop-after.invariant

pub returns : goal.returns
returns c = sym (is_plain_last c.loop-after.rest.now (sym c.in_default.ensures.parts)) ∙ c.loop-after.invariant

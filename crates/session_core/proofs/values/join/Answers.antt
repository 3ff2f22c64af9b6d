use Rattle.std.proofs.Common.{◌∙◌}
use Rattle.session_core.specs.declared.values.Value.TheVariants.{Number}
use Rattle.session_core.proofs.Joining.{all-joined}
use Rattle.session_core.proofs.values.join.Goals as goal

pub returns-after-loop-value : goal.returns-after-loop-value
returns-after-loop-value c =
    all-joined c.args.values.now (Number 0) c.from_vec-words.result c.push_value.new.words c.loop-value.words c.loop-value.value-index
    c.in-len1-up.len_at_least (c.from_vec-words.ensures ∙ c.new.ensures.items) c.in_ok-push_value-in-len1-up.ensures c.loop-value.invariant c.loop-value-test.false

use Rattle.std.proofs.Common.{refl}
use Rattle.std.proofs.lemmas.Result.{IfOk-weaker}
use Rattle.picture_words.proofs.Building.{added}
use Rattle.picture_words.proofs.command.with_depths.Goals as goal

pub returns : goal.returns
returns c =
    let first = added _ _ _ _ _ refl c.optional.ensures.rule c.optional.ensures.local c.in_ok-arg.ensures in
    let second = added _ _ _ _ _ first c.optional-2.ensures.rule c.optional-2.ensures.local c.in_ok-arg-2.ensures in
    let third = added _ _ _ _ _ second c.optional-3.ensures.rule c.optional-3.ensures.local c.in_ok-arg-3.ensures in
    IfOk-weaker c.arg-4.result _ _ (λ command adds. added _ _ _ _ _ third c.optional-4.ensures.rule c.optional-4.ensures.local adds) c.arg-4.ensures

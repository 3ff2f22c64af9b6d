use Rattle.std.proofs.Common.{refl}
use Rattle.std.proofs.lemmas.Result.{IfOk-weaker}
use Rattle.picture_words.proofs.Building.{added}
use Rattle.picture_words.proofs.command.with_tables.Goals as goal

pub returns : goal.returns
returns c =
    let first = added _ _ _ _ _ refl c.required_option.ensures.rule c.required_option.ensures.local c.in_ok-arg.ensures in
    let second = added _ _ _ _ _ first c.required_option-2.ensures.rule c.required_option-2.ensures.local c.in_ok-arg-2.ensures in
    IfOk-weaker c.arg-3.result _ _ (λ command adds. added _ _ _ _ _ second c.required_option-3.ensures.rule c.required_option-3.ensures.local adds) c.arg-3.ensures

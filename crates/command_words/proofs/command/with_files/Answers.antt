use Rattle.std.proofs.Common.{refl}
use Rattle.std.proofs.lemmas.Result.{IfOk-weaker}
use Rattle.command_words.proofs.Building.{added}
use Rattle.command_words.proofs.command.with_files.Goals as goal

pub returns : goal.returns
returns c =
    let first = added _ _ _ _ _ refl c.required_option.ensures.rule c.required_option.ensures.local c.in_ok-arg.ensures in
    IfOk-weaker c.arg-2.result _ _ (λ command adds. added _ _ _ _ _ first c.required_option-2.ensures.rule c.required_option-2.ensures.local adds) c.arg-2.ensures

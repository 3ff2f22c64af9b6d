-- The command that is built is the one that definitions cite.
use Rattle.std.proofs.Common.{◌≡◌, true, false, refl, ap₂, ◌∙◌}
use Rattle.clap.specs.Words.{AddsArg, App, Rule, app_of, is_simple_and_free, rule_of, with_rule}
use Rattle.clap.specs.declared.builder.arg.Arg.{Arg}
use Rattle.clap.specs.declared.builder.command.Command.{Command}
use Rattle.clap.specs.Simple.{is_simple}
use Rattle.clap.proofs.OnLiterals.{clap_on_literals}
use Rattle.command_words.specs.Command.{ecdis}

pub added : (old : Command) (arg : Arg) (new : Command) (app : App) (rule : Rule) → app_of old ≡ app
    → rule_of arg ≡ rule → arg.global ≡ false
    → AddsArg old arg new → app_of new ≡ with_rule app rule
added old arg new app rule before is local adds = adds.shape local ∙ ap₂ with_rule before is

pub ecdis_is_simple : is_simple ecdis ≡ true
unfolding clap_on_literals
ecdis_is_simple = refl

pub ecdis_is_simple_and_free : is_simple_and_free ecdis ≡ true
unfolding clap_on_literals
ecdis_is_simple_and_free = refl

-- The command that is built is the one that definitions cite.
use Rattle.std.proofs.Common.{◌≡◌, ℕ, List, true, false, Some, refl, ap, ap₂, ◌∙◌}
use Rattle.std.specs.Borrow.{Bor}
use Rattle.clap.specs.Words.{AddsArg, App, Rule, app_of, is_simple_and_free, rule_of, with_rule}
use Rattle.clap.specs.declared.builder.arg.Arg.{Arg}
use Rattle.clap.specs.declared.builder.command.Command.{Command}
use Rattle.clap.specs.declared.builder.command.Command.TheOpen.{Command-F}
use Rattle.clap.specs.declared.builder.command.Command.TheViews.{out-Command}
use Rattle.clap.specs.Simple.{app_of_fields, is_simple}
use Rattle.clap.proofs.OnLiterals.{clap_on_literals}
use Rattle.picture_words.specs.Command.{chart_picture}

pub added : (old : Command) (arg : Arg) (new : Command) (app : App) (rule : Rule) → app_of old ≡ app
    → rule_of arg ≡ rule → arg.global ≡ false
    → AddsArg old arg new → app_of new ≡ with_rule app rule
added old arg new app rule before is local adds = adds.shape local ∙ ap₂ with_rule before is

-- texts about the command change nothing but that it has a version
pub versioned_is : (new about version : Command) (text other : Bor (List ℕ)) (app : App) → app_of new ≡ app
    → out-Command about ≡ record (out-Command new) { about = Some text }
    → out-Command version ≡ record (out-Command about) { version = Some other }
    → app_of version ≡ record app { top = record app.top { has_version = true } }
versioned_is new about version text other app is first second =
    ap app_of_fields second
    ∙ ap (λ (fields : Command-F Command). app_of_fields (record fields { version = Some other })) first
    ∙ ap (λ (a : App). record a { top = record a.top { has_version = true } }) is

pub chart_picture_is_simple : is_simple chart_picture ≡ true
unfolding clap_on_literals
chart_picture_is_simple = refl

pub chart_picture_is_simple_and_free : is_simple_and_free chart_picture ≡ true
unfolding clap_on_literals
chart_picture_is_simple_and_free = refl

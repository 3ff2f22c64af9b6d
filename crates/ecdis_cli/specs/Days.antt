-- One script by a day, and without one.
use Rattle.std.specs.Prelude.{◌≡◌, ℕ, ◌+◌, List, [], ◌∷◌, map, Option, Some, None, Result, Ok, Err}
use Rattle.std.specs.Str.Lines.{lines}
use Rattle.script_reader.specs.Reading.{event_in}
use Rattle.script_reader.specs.declared.event.Event.{Event}
use Rattle.script_reader.specs.declared.fault.LineFault.{LineFault}
use Rattle.session_core.specs.Days.{ShowsCharts, but_for_days}
use Rattle.session_core.specs.Model.{Model, Portrayal}
use Rattle.session_core.specs.Outside.{FromOutside}
use Rattle.ecdis_cli.specs.Run.{reading_of}
use Rattle.ecdis_cli.specs.Script.{commands_in, model_after, steps_of}
use Rattle.ecdis_cli.specs.Step.{Step}

-- cells are drawn whole
abbrev pub without_day : Portrayal → Portrayal
without_day portrayal = record portrayal { day = None }

-- the shelf answers the same to each line
abbrev pub AreFetchedAlike : List FromOutside → List FromOutside → Type 0
AreFetchedAlike answers others =
    map (λ (outside : FromOutside). outside.fetches) answers ≡ map (λ (outside : FromOutside). outside.fetches) others

-- a line that is `draw`, or about a panel
abbrev pub AsksForCharts : Result (Option Event) LineFault → Type 0
AsksForCharts (Ok (Some event)) = ShowsCharts event
AsksForCharts other = ⊥

-- The same command is accepted, and the same is left but for what is known of panels. The reply is the same, unless the
-- line asks for what is drawn.
pub record IsAlikeStep (read : Result (Option Event) LineFault) (step other : Step) : Type 0 where
  pub command : step.command ≡ other.command
  pub model : but_for_days step.model ≡ but_for_days other.model
  pub reply : ¬ AsksForCharts read → step.reply ≡ other.reply

-- so it is line by line, the first of which has this number
abbrev pub AreAlikeFrom : ℕ → List (List ℕ) → List Step → List Step → Type 0
AreAlikeFrom number [] [] [] = Unit {0}
AreAlikeFrom number (line ∷ more) (step ∷ steps) (other ∷ others) =
    IsAlikeStep (event_in number line) step other × AreAlikeFrom (number + 1) more steps others
AreAlikeFrom number other steps others = ⊥

-- A script goes alike from two models: line by line, so the same commands are accepted, and what is read of files that
-- keep what is held then is the same.
pub record GoAlike (script : List ℕ) (model other : Model) (answers others : List FromOutside) : Type 0 where
  pub each_line : AreAlikeFrom 1 (lines script) (steps_of model script answers) (steps_of other script others)
  pub commands : commands_in (steps_of model script answers) ≡ commands_in (steps_of other script others)
  pub read : reading_of (model_after model (steps_of model script answers))
      ≡ reading_of (model_after other (steps_of other script others))

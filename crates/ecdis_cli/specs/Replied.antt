-- A line's reply, before it is said.
use Rattle.std.specs.Prelude.{◌≡◌, ℕ, Bool, List, [], ◌∷◌, Option, Result, Ok, Err}
use Rattle.chart_ports.specs.Moments.{MayBeLeft}
use Rattle.chart_ports.specs.Said.{SaysFront}
use Rattle.chart_ports.specs.declared.images.Images.{Images}
use Rattle.chart_store.specs.Store.{StandsForEither}
use Rattle.script_reader.specs.declared.reply.Reply.{Reply}
use Rattle.session_core.specs.Fetch.{AreFetched, Files}
use Rattle.session_core.specs.Model.{Model}
use Rattle.session_core.specs.Outside.{FromOutside}
use Rattle.session_core.specs.Steps.{TakesAtMost}
use Rattle.ecdis_cli.specs.declared.run.stop.Stop.{Stop}
use Rattle.ecdis_cli.specs.Panels.{KeepFailures, PanelValue}
use Rattle.ecdis_cli.specs.Progress.{Moments, PanelsFollow, step_at}
use Rattle.ecdis_cli.specs.Standing.{Standing}
use Rattle.ecdis_cli.specs.Step.{Step}

-- the reply and the model after it are those of the step, and panels went along with it
abbrev pub GivesStep : Result (Option Reply) Stop → Model → List PanelValue → Model → List PanelValue → Step → Type 0
GivesStep (Ok reply) model before now panels step =
    (step.reply ≡ reply) × (step.model ≡ now) × PanelsFollow model before (step ∷ []) panels
GivesStep (Err stop) model before now panels step = KeepFailures model.scenes before panels

-- The step of the line was taken, by some answers from outside, and was counted. A crash at any moment of it leaves
-- files that stand for what was held before, or for what the step leaves. Nothing is said.
pub record ReplyIsFound (tells : Bool) (files : Files) (Leaves : Moments) (before : Standing)
    (faults count : ℕ) (IsGiven : Step → Type 0) : Type 0 where
  pub outside : FromOutside
  pub answers : AreFetched tells files before.faults faults outside.fetches
  pub gives : IsGiven (step_at outside before)
  pub counted : TakesAtMost (step_at outside before).most before.model.state (step_at outside before).model.state
      before.count count
  pub leaves : Leaves (StandsForEither before.said before.model.state (step_at outside before).model.state)

-- while a reply is said a front of it is, and the files are as a crash might have left them before
pub record LeavesSaying (may_leave : ℕ → List ℕ → Type 0) (said reply : List ℕ) (images : Images)
    (so_far : List ℕ) : Type 0 where
  pub left : MayBeLeft may_leave images
  pub front : SaysFront said reply so_far

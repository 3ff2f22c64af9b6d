-- How far the answering of a script has come.
use Rattle.std.specs.Prelude.{◌≡◌, ◌⊎◌, ℕ, ◌≤◌, ◌<◌, ◌==◌, Bool, false, List, [], ◌∷◌, ◌++◌, length, All, None}
use Rattle.std.specs.Str.Lines.{lines}
use Rattle.chart_ports.specs.Count.{RoseBy}
use Rattle.chart_ports.specs.Said.{SaysFront}
use Rattle.chart_ports.specs.declared.images.Images.{Images}
use Rattle.chart_store.specs.Outcome.{after}
use Rattle.session_core.specs.Fetch.{Files}
use Rattle.session_core.specs.Model.{Model}
use Rattle.session_core.specs.Outside.{FromOutside}
use Rattle.panel_scenes.specs.InStep.{Start}
use Rattle.ecdis_cli.specs.Counted.{StepsAreCounted}
use Rattle.ecdis_cli.specs.Crash.{LeavesPrefix}
use Rattle.ecdis_cli.specs.Panels.{AreAsKnown, HaveCountedFailures, NumbersAreTold, PanelValue, starts_left}
use Rattle.ecdis_cli.specs.WholeLines.{whole_lines}
use Rattle.ecdis_cli.specs.Script.{IsAnswer, commands_in, failures_in, model_after, output_of, steps_from}
use Rattle.ecdis_cli.specs.Standing.{Standing}
use Rattle.ecdis_cli.specs.Step.{Step, said_in, step_to}

-- that a crash leaves nothing else, at any moment from one desk to a later one
abbrev pub Moments : Type 1
Moments = (Images → List ℕ → Type 0) → Type 0

-- ---- steps

-- a step without a reply has no command
abbrev pub IsSpoken : Step → Type 0
IsSpoken step = (step.command ≡ None) ⊎ (0 < length (said_in step))

-- Steps were taken, with what was said then, what a crash leaves of them and how they were counted.
pub record StepsAreTaken (tells : Bool) (files : Files) (Leaves : Moments) (before : Standing) (faults count : ℕ)
    (answers : List FromOutside) (steps : List Step) : Type 0 where
  pub told : All (IsAnswer tells files) answers
  pub spoken : All IsSpoken steps
  pub held : (model_after before.model steps).state ≡ after before.model.state (commands_in steps)
  pub failed : RoseBy (failures_in steps) before.faults faults
  pub later : before.faults ≤ faults
  pub crash : Leaves (LeavesPrefix before.model.state steps before.said)
  pub counted : StepsAreCounted before.model steps before.count count

-- Panels went along with steps that were answered: where they were as known before, their numbers were told, and they are
-- as known after them.
pub record PanelsFollow (model : Model) (before : List PanelValue) (steps : List Step) (now : List PanelValue)
    : Type 0 where
  pub told : (starts : List Start) → AreAsKnown starts before model.scenes → NumbersAreTold starts model steps
  pub known : (starts : List Start) → AreAsKnown starts before model.scenes
      → AreAsKnown (starts_left starts steps) now (model_after model steps).scenes

-- where the last step may have got no answer: all whose reply was begun were answered
pub record PanelsAreLeft (before : Standing) (steps : List Step) (now : Standing) : Type 0 where
  pub answered : List Step
  pub others : List Step
  pub whole : steps ≡ answered ++ others
  pub begun : SaysFront before.said (output_of answered) now.said
  pub told : (starts : List Start) → AreAsKnown starts before.panels before.model.scenes
      → NumbersAreTold starts before.model answered
  pub counted : (starts : List Start) → AreAsKnown starts before.panels before.model.scenes
      → HaveCountedFailures (starts_left starts answered) now.panels (model_after before.model answered).scenes

-- what steps leave whose replies were said
pub record IsAfter (before : Standing) (steps : List Step) (now : Standing) : Type 0 where
  pub said : now.said ≡ before.said ++ output_of steps
  pub reached : now.model ≡ model_after before.model steps
  pub panels : PanelsFollow before.model before.panels steps now.panels

-- of steps that were taken the replies to all but the last were said, and of that one a front
pub record SaysUpToLast (before : List ℕ) (steps : List Step) (now : List ℕ) : Type 0 where
  pub answered : List Step
  pub last : List Step
  pub whole : steps ≡ answered ++ last
  pub one : length last ≤ 1
  pub front : SaysFront (before ++ output_of answered) (output_of last) now

-- ---- a line

-- the step of the line that has begun, by what it gets from outside
abbrev pub step_at : FromOutside → Standing → Step
step_at outside at = step_to outside at.model at.number at.line

-- The line was answered: its step was taken, and its reply said.
pub record LineIsAnswered (tells : Bool) (files : Files) (Leaves : Moments) (before now : Standing) : Type 0 where
  pub outside : FromOutside
  pub taken : StepsAreTaken tells files Leaves before now.faults now.count (outside ∷ [])
      (step_at outside before ∷ [])
  pub after : IsAfter before (step_at outside before ∷ []) now

-- no more than a front of the line's reply was said
pub record ReplyIsInterrupted (tells : Bool) (files : Files) (Leaves : Moments) (before now : Standing) : Type 0 where
  pub outside : FromOutside
  pub taken : StepsAreTaken tells files Leaves before now.faults now.count (outside ∷ [])
      (step_at outside before ∷ [])
  pub front : SaysFront before.said (output_of (step_at outside before ∷ [])) now.said
  pub panels : PanelsAreLeft before (step_at outside before ∷ []) now

-- ---- bytes of the script

-- no line feed is among the bytes
abbrev pub HasNoLineFeed : List ℕ → Type 0
HasNoLineFeed bytes = All (λ byte. (byte == 10) ≡ false) bytes

-- the steps of the rest of a script, from where its reading stands
abbrev pub steps_at : Standing → List ℕ → List FromOutside → List Step
steps_at at rest answers = steps_from at.model at.number (lines (at.line ++ rest)) answers

-- Further bytes were taken, from where the answering stood to where it stands: the steps of the lines that ended in
-- them come first, however the script goes on.
pub record BytesAreTaken (tells : Bool) (files : Files) (Leaves : Moments) (at : Standing) (bytes : List ℕ)
    (at' : Standing) : Type 0 where
  pub answers : List FromOutside
  pub steps : List Step
  pub taken : StepsAreTaken tells files Leaves at at'.faults at'.count answers steps
  pub after : IsAfter at steps at'
  pub ahead : (rest : List ℕ) (more : List FromOutside)
      → steps_at at (bytes ++ rest) (answers ++ more) ≡ steps ++ steps_at at' rest more
  pub ended_lines : HasNoLineFeed at.line → (more : List FromOutside)
      → steps_from at.model at.number (lines (whole_lines (at.line ++ bytes))) (answers ++ more) ≡ steps
  pub unended : HasNoLineFeed bytes → answers ≡ []
  pub open_line : HasNoLineFeed at.line → HasNoLineFeed at'.line

-- the script has ended here, and its last line was answered
pub record ScriptIsFinished (tells : Bool) (files : Files) (Leaves : Moments) (at now : Standing) : Type 0 where
  pub answers : List FromOutside
  pub steps : List Step
  pub taken : StepsAreTaken tells files Leaves at now.faults now.count answers steps
  pub after : IsAfter at steps now
  pub ahead : (more : List FromOutside) → steps_at at [] (answers ++ more) ≡ steps

-- the script has ended here, and no more than a front of the reply to its last line was said
pub record ScriptIsUnfinished (tells : Bool) (files : Files) (Leaves : Moments) (at now : Standing) : Type 0 where
  pub answers : List FromOutside
  pub steps : List Step
  pub taken : StepsAreTaken tells files Leaves at now.faults now.count answers steps
  pub said : SaysUpToLast at.said steps now.said
  pub panels : PanelsAreLeft at steps now
  pub ahead : (more : List FromOutside) → steps_at at [] (answers ++ more) ≡ steps

-- steps come first among others, which go on from there by further answers from outside
pub record ComeFirst (steps : List Step) (more : List FromOutside) (whole : List Step) : Type 0 where
  pub model : Model
  pub number : ℕ
  pub left : List (List ℕ)
  pub behind : whole ≡ steps ++ steps_from model number left more

-- The run ended within these bytes: the replies to some steps were said, and of the last a front. They come first,
-- however the script goes on.
pub record RunIsStopped (tells : Bool) (files : Files) (Leaves : Moments) (at : Standing) (bytes : List ℕ)
    (now : Standing) : Type 0 where
  pub answers : List FromOutside
  pub steps : List Step
  pub taken : StepsAreTaken tells files Leaves at now.faults now.count answers steps
  pub said : SaysUpToLast at.said steps now.said
  pub panels : PanelsAreLeft at steps now
  pub ahead : (rest : List ℕ) (more : List FromOutside)
      → ComeFirst steps more (steps_at at (bytes ++ rest) (answers ++ more))

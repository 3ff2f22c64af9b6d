-- What the lines of a script do, one after the other.
use Rattle.std.specs.Prelude.{◌≡◌, ℕ, ◌+◌, ◌-◌, ◌==◌, if◌then◌else◌, Bool, false, IsTrue, List, [], ◌∷◌, length, count_by}
use Rattle.std.specs.Prelude.{Option, Some, None}
use Rattle.std.specs.List.{flat_map}
use Rattle.std.specs.Str.Lines.{lines}
use Rattle.chart_model.specs.declared.command.Command.{Command}
use Rattle.chart_ports.specs.declared.shelf.Fetched.TheVariants.{Absent}
use Rattle.session_core.specs.Fetch.{Files, fetches_of}
use Rattle.session_core.specs.Model.{Model}
use Rattle.session_core.specs.Outside.{FromOutside}
use Rattle.ecdis_cli.specs.Step.{Step, step_to, said_in, tells_failure}

-- Each line gets its own answers from outside. Where these have ended the shelf has no file, no panel fails, and one that
-- is asked shows nothing.

abbrev pub no_answer : FromOutside
no_answer = record {
  fetches = λ limit name. Some Absent;
  painting_failed = false;
  numbers = record { blocks = 0; items = 0 };
}

abbrev pub first_answer : List FromOutside → FromOutside
first_answer [] = no_answer
first_answer (outside ∷ answers) = outside

abbrev pub other_answers : List FromOutside → List FromOutside
other_answers [] = []
other_answers (outside ∷ answers) = answers

-- a shelf that tells its files answers a line with them, or it fails
abbrev pub IsAnswer : Bool → Files → FromOutside → Type 0
IsAnswer tells files outside = IsTrue tells → (failed : Bool) × (outside.fetches ≡ fetches_of files failed)

-- the steps of lines, the first of which has this number
abbrev pub steps_from : Model → ℕ → List (List ℕ) → List FromOutside → List Step
steps_from model number [] answers = []
steps_from model number (line ∷ more) answers =
    step_to (first_answer answers) model number line
    ∷ steps_from (step_to (first_answer answers) model number line).model (number + 1) more (other_answers answers)

-- the steps of a script, whose lines count from 1
unfoldable pub steps_of : Model → List ℕ → List FromOutside → List Step
steps_of model script answers = steps_from model 1 (lines script) answers

-- what is said in steps
abbrev pub output_of : List Step → List ℕ
output_of = flat_map said_in

abbrev pub commands_of : Option Command → List Command
commands_of None = []
commands_of (Some command) = command ∷ []

-- the commands that are accepted in them
abbrev pub commands_in : List Step → List Command
commands_in = flat_map (λ (step : Step). commands_of step.command)

-- the model after them
abbrev pub model_after : Model → List Step → Model
model_after model [] = model
model_after model (step ∷ steps) = model_after step.model steps

-- those whose reply was begun once so many bytes were said
abbrev pub begun_steps : ℕ → List Step → List Step
begun_steps bytes [] = []
begun_steps bytes (step ∷ steps) = if bytes == 0 then [] else step ∷ begun_steps (bytes - length (said_in step)) steps

-- how often it is said that the shelf failed
abbrev pub failures_in : List Step → ℕ
failures_in steps = count_by (λ (step : Step). tells_failure step.reply) steps

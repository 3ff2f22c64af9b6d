-- What one line of the script does.
use Rattle.std.specs.Prelude.{ℕ, Bool, false, ◌==◌, List, [], Option, Some, None, Result, Ok, Err}
use Rattle.chart_model.specs.declared.command.Command.{Command}
use Rattle.script_reader.specs.Reading.{event_in}
use Rattle.script_reader.specs.Reply.{bytes_of_reply}
use Rattle.script_reader.specs.declared.event.Event.{Event}
use Rattle.script_reader.specs.declared.fault.LineFault.{LineFault}
use Rattle.script_reader.specs.declared.reply.Reply.{Reply}
use Rattle.script_reader.specs.declared.reply.Reply.TheVariants as replies
use Rattle.session_core.specs.Model.{Model}
use Rattle.session_core.specs.Outside.{FromOutside}
use Rattle.session_core.specs.Replied.{Turn, refusal_turn}
use Rattle.session_core.specs.Steps.{most_steps_at}
use Rattle.session_core.specs.Turn.{turn_of}
use Rattle.session_core.specs.declared.refusal.LineRefusal.TheVariants.{BadLine}

-- what is replied, and the command that is accepted, where there are such; the model after it, and how many data
-- records are come to and features drawn of a day at most
pub record Step : Type 0 where
  pub reply : Option Reply
  pub command : Option Command
  pub model : Model
  pub most : ℕ

-- nothing is replied, and nothing done
abbrev pub silent_step : Model → Step
silent_step model = record { reply = None; command = None; model = model; most = 0 }

-- a turn is taken, which comes to so many of them at most
abbrev pub step_of : ℕ → Turn → Step
step_of most turn = record { reply = Some turn.reply; command = turn.command; model = turn.model; most = most }

-- an empty line and a remark are silent, an event takes its turn, and a bad line is refused by its number
abbrev pub step_by : FromOutside → Model → ℕ → Result (Option Event) LineFault → Step
step_by outside model number (Ok None) = silent_step model
step_by outside model number (Ok (Some event)) =
    step_of (most_steps_at outside.fetches model event) (turn_of outside model event)
step_by outside model number (Err fault) = step_of 0 (refusal_turn model (BadLine number))

-- the step of the line of this number, by what it gets from outside
unfoldable pub step_to : FromOutside → Model → ℕ → List ℕ → Step
step_to outside model number line = step_by outside model number (event_in number line)

abbrev pub said_of : Option Reply → List ℕ
said_of None = []
said_of (Some reply) = bytes_of_reply reply

-- the bytes that are said
abbrev pub said_in : Step → List ℕ
said_in step = said_of step.reply

-- it is said that the shelf failed
abbrev pub tells_failure : Option Reply → Bool
tells_failure (Some (replies.Refused code values)) = code == 72
tells_failure other = false

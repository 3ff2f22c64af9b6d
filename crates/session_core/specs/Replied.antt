-- A turn, and those that leave a model as it is.
use Rattle.std.specs.Prelude.{Option, None, Result, Ok, Err}
use Rattle.chart_model.specs.declared.command.Command.{Command}
use Rattle.script_reader.specs.declared.reply.Reply.{Reply}
use Rattle.session_core.specs.declared.refusal.LineRefusal.{LineRefusal}
use Rattle.session_core.specs.Model.{Model}
use Rattle.session_core.specs.Refusal.{reply_of}

-- what is replied, the command that is accepted, where one is, and the model after it
pub record Turn : Type 0 where
  pub reply : Reply
  pub command : Option Command
  pub model : Model

-- a question leaves everything as it is
abbrev pub answer_turn : Model → Reply → Turn
answer_turn model reply = record { reply = reply; command = None; model = model }

-- so does what is refused
abbrev pub refusal_turn : Model → LineRefusal → Turn
refusal_turn model refusal = answer_turn model (reply_of refusal)

-- a question that may be refused
abbrev pub reply_turn : Model → Result Reply LineRefusal → Turn
reply_turn model (Ok reply) = answer_turn model reply
reply_turn model (Err refusal) = refusal_turn model refusal

-- What a line orders: a command, and the reply that follows it.
use Rattle.std.specs.Prelude.{ℕ, List, Option, Some, Result, Ok, Err, if◌then◌else◌}
use Rattle.chart_model.specs.Answers.{◌>>=◌}
use Rattle.chart_model.specs.declared.command.Command.{Command}
use Rattle.chart_model.specs.declared.command.Command.TheVariants as commands
use Rattle.chart_model.specs.declared.state.Held.{Held}
use Rattle.chart_ports.specs.declared.shelf.Fetched.{Fetched}
use Rattle.chart_store.specs.Loaded.{FILE_LIMIT, HoldingsByKey, Outcome}
use Rattle.chart_store.specs.Outcome.{accepted}
use Rattle.chart_store.specs.declared.refusal.Refusal as of_store
use Rattle.script_reader.specs.declared.reply.Reply.{Reply}
use Rattle.script_reader.specs.declared.reply.Reply.TheVariants as replies
use Rattle.session_core.specs.declared.changes.order.Order.{Order}
use Rattle.session_core.specs.declared.changes.order.Success.{Success}
use Rattle.session_core.specs.declared.changes.order.Success.TheVariants.{Load, Rollback, Drop, Commit, Make, Reissue}
use Rattle.session_core.specs.declared.changes.written.MadeFile.{MadeFile}
use Rattle.session_core.specs.declared.refusal.LineRefusal.{LineRefusal}
use Rattle.session_core.specs.declared.refusal.LineRefusal.TheVariants.{Store}
use Rattle.session_core.specs.Fetch.{file_in}
use Rattle.session_core.specs.Model.{Model, model_with}
use Rattle.session_core.specs.Replied.{Turn, refusal_turn}
use Rattle.session_core.specs.Written.{made_file, reissue_file}

-- The reply to a line whose command is accepted, by the key of the cell and the numbers that are held of it then. A
-- file is taken over, or has cancelled its cell.
abbrev pub reply_to : Success → List ℕ → Held → Reply
reply_to Load key held =
    if held.cancelled then replies.Cancel key else replies.Load key held.edition held.update
reply_to Rollback key held = replies.Rollback key held.edition held.update
reply_to Drop key held = replies.Drop key
reply_to Commit key held =
    if held.cancelled then replies.Cancel key else replies.Commit key held.edition held.update
reply_to (Make records) key held = replies.Make key held.edition held.update records
reply_to Reissue key held = replies.Reissue key held.edition held.update

-- a file is to be taken over
abbrev pub order_of_file : Success → List ℕ → Order
order_of_file success file = record { command = commands.Load file; success = success }

-- what each line orders, or why it is refused

-- `load`: the file of a name, as the shelf answers
abbrev pub load_order : List ℕ → Option Fetched → Result Order LineRefusal
load_order name fetched = file_in FILE_LIMIT name fetched >>= λ file. Ok (order_of_file Load file)

-- `rollback`: a cell, and the number of an update
abbrev pub rollback_order : List ℕ → ℕ → Order
rollback_order key update = record { command = commands.Rollback key update; success = Rollback }

-- `drop`: a cell
abbrev pub drop_order : List ℕ → Order
drop_order key = record { command = commands.Drop key; success = Drop }

-- `commit`: the file that is staged
abbrev pub commit_order : List ℕ → Order
commit_order file = order_of_file Commit file

-- `make`: so many areas, and the number of an update
abbrev pub make_order : ℕ → ℕ → Result Order LineRefusal
make_order areas update =
    made_file areas update >>= λ (made : MadeFile). Ok (order_of_file (Make made.records) made.bytes)

-- `reissue`: a cell
abbrev pub reissue_order : HoldingsByKey → List ℕ → Result Order LineRefusal
reissue_order cells key = reissue_file cells key >>= λ file. Ok (order_of_file Reissue file)

-- ---- the turn of an order

-- a command is accepted, or refused
abbrev pub decision_turn : Model → Command → (Outcome → Reply) → Result Outcome of_store.Refusal → Turn
decision_turn model command reply (Ok done) =
    record { reply = reply done; command = Some command; model = model_with model command done.state }
decision_turn model command reply (Err refusal) = refusal_turn model (Store refusal)

abbrev pub command_turn : Model → Command → (Outcome → Reply) → Turn
command_turn model command reply = decision_turn model command reply (accepted model.state model.room command)

-- so is one that a line orders, unless the line is refused before
abbrev pub order_turn : Model → Result Order LineRefusal → Turn
order_turn model (Ok order) = command_turn model order.command (λ done. reply_to order.success done.key done.held)
order_turn model (Err refusal) = refusal_turn model refusal

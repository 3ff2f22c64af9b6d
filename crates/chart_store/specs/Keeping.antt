-- A command's record, written once its cell is made.
use Rattle.std.specs.Prelude.{◌≡◌, ℕ, List, length, Result, Ok}
use Rattle.bank_journal.specs.Bank.{frame_of, IsBodyLength}
use Rattle.chart_model.specs.Answers.{◌>>=◌}
use Rattle.chart_model.specs.State.{StateValue}
use Rattle.chart_model.specs.declared.command.Command.{Command}
use Rattle.command_codec.specs.Spelling.{spelling, Spells}
use Rattle.chart_store.specs.declared.next.Next.{Next}
use Rattle.chart_store.specs.declared.refusal.Refusal.{Refusal}
use Rattle.chart_store.specs.Loaded.{Outcome}
use Rattle.chart_store.specs.Next.{outcome_by}
use Rattle.chart_store.specs.Outcome.{Room, outcome, record_size, room_within}

-- what is answered, by the room for a record of so many bytes
abbrev pub with_room : Room → ℕ → Outcome → Result Outcome Refusal
with_room room more done = do
  _ ← room_within room more
  Ok done

-- the record is that of a command which is accepted, but for the room in the bank, and leaves this
pub record IsRecordOf (state : StateValue) (next : Next) (framed : List ℕ) : Type 0 where
  pub command : Command
  pub leaves : outcome state command ≡ Ok (outcome_by state next)
  pub frames : framed ≡ frame_of (spelling command)
  pub need : length framed ≡ record_size command
  pub spelled : Spells (spelling command) command
  pub short : IsBodyLength (length (spelling command))

-- What a store answers to a command.
use Rattle.std.specs.Prelude.{◌≡◌, ◌<◌, ℕ, List, length, Option, Some, None, Result}
use Rattle.chart_model.specs.State.{StateValue}
use Rattle.chart_model.specs.declared.command.Command.{Command}
use Rattle.chart_model.specs.declared.command.Command.TheVariants.{Load}
use Rattle.bank_journal.specs.declared.fault.AppendFault.{AppendFault}
use Rattle.bank_journal.specs.declared.fault.AppendFault.TheVariants as appends
use Rattle.bank_pair.specs.declared.fault.SaveFault.{SaveFault}
use Rattle.bank_pair.specs.declared.fault.SaveFault.TheVariants as saves
use Rattle.chart_store.specs.declared.accepted.Accepted.{Accepted}
use Rattle.chart_store.specs.declared.fault.TakeFault.{TakeFault}
use Rattle.chart_store.specs.declared.fault.TakeFault.TheVariants as takes
use Rattle.chart_store.specs.declared.refusal.Refusal.{Refusal}
use Rattle.chart_store.specs.declared.refusal.Refusal.TheVariants.{BankFull}
use Rattle.chart_store.specs.declared.submit_fault.SubmitFault.{SubmitFault}
use Rattle.chart_store.specs.declared.submit_fault.SubmitFault.TheVariants.{Refused, DeskFault, NoMemory}
use Rattle.chart_store.specs.Loaded.{Outcome}
use Rattle.chart_model.specs.Answers as answers

-- the refusal that a fault tells
abbrev pub told : SubmitFault → Option Refusal
told (Refused refusal) = Some refusal
told fault = None

-- a file that has too many bytes to be kept
abbrev pub IsTooLong : Command → Type 0
IsTooLong command = (file : List ℕ) × (command ≡ Load file) × (8388608 < length file)

-- a refusal
abbrev pub RefusedHas : (Refusal → Type 0) → SubmitFault → Type 0
RefusedHas P (Refused refusal) = P refusal
RefusedHas P DeskFault = Unit {0}
RefusedHas P NoMemory = Unit {0}

abbrev pub fault_of_taking : TakeFault → SubmitFault
fault_of_taking (takes.Refused refusal) = Refused refusal
fault_of_taking takes.NoMemory = NoMemory

abbrev pub fault_of_appending : AppendFault → SubmitFault
fault_of_appending appends.DeskFault = DeskFault
fault_of_appending (appends.Full used need) = Refused (BankFull used need)

-- nothing of the other bank is used when a save begins
abbrev pub fault_of_saving : SaveFault → SubmitFault
fault_of_saving (saves.Full need) = Refused (BankFull 0 need)

abbrev pub accepted_with : StateValue → Accepted → Outcome
accepted_with state done = record { key = done.key; held = done.held; state = state }

-- the answer with what is held now is what was to be answered, unless memory ran out or the desk failed
abbrev pub GivesAccepted : Result Accepted SubmitFault → StateValue → Result Outcome Refusal → Type 0
GivesAccepted answer state wanted = answers.GivesBy told (accepted_with state) answer wanted

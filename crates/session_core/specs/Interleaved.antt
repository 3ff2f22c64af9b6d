-- Events one after the other, and the commands that are accepted between two of them.
use Rattle.std.specs.Prelude.{◌≡◌, ℕ, ◌+◌, List, [], ◌∷◌, ◌++◌, map, filter, Option, Some, None, IsSome}
use Rattle.std.specs.List.{join_with_byte, last_or}
use Rattle.chart_model.specs.declared.command.Command.{Command}
use Rattle.chart_store.specs.Staging.{StagedValue, key_in}
use Rattle.script_reader.specs.declared.event.Event.{Event}
use Rattle.session_core.specs.Model.{Model, Staging, is_same_key, key_of, with_staging}
use Rattle.session_core.specs.Outside.{FromOutside}
use Rattle.session_core.specs.Refusal.{numbers}
use Rattle.session_core.specs.Replied.{Turn}
use Rattle.session_core.specs.Staging.{staging_at}
use Rattle.session_core.specs.Turn.{turn_of}

-- an event, with what it gets from outside
pub record Asked : Type 0 where
  pub event : Event
  pub outside : FromOutside

abbrev pub turn_at : Model → Asked → Turn
turn_at model asked = turn_of asked.outside model asked.event

-- the model after events
abbrev pub model_after : Model → List Asked → Model
model_after model [] = model
model_after model (asked ∷ more) = model_after (turn_at model asked).model more

-- ---- commands

-- a command that was accepted: the key of its cell, and its number in this run
pub record Numbered : Type 0 where
  pub key : List ℕ
  pub number : ℕ

-- that of a turn before which so many were accepted, where one is
abbrev pub numbered_by : ℕ → Option Command → List Numbered
numbered_by count None = []
numbered_by count (Some command) = record { key = key_of command; number = count + 1 } ∷ []

-- those of events, in order
abbrev pub commands_along : Model → List Asked → List Numbered
commands_along model [] = []
commands_along model (asked ∷ more) =
    numbered_by model.count (turn_at model asked).command ++ commands_along (turn_at model asked).model more

-- the numbers of those for the cell of this key
abbrev pub numbers_for : List ℕ → List Numbered → List ℕ
numbers_for key commands =
    map (λ (done : Numbered). done.number) (filter (λ (done : Numbered). is_same_key key done.key) commands)

-- ---- a file that is staged

-- a file of the cell of this key was staged just now, and all else is as it was
pub record IsBegun (model : Model) (key : List ℕ) (now : Model) : Type 0 where
  pub staged : StagedValue
  pub of_cell : key_in staged.file ≡ key
  pub is : now ≡ with_staging model (Some (staging_at model.count staged))

-- something is staged after each of these events
abbrev pub StaysStaged : Model → List Asked → Type 0
StaysStaged model [] = Unit {0}
StaysStaged model (asked ∷ more) =
    IsSome (turn_at model asked).model.staging × StaysStaged (turn_at model asked).model more

-- The same file is staged still, on what was held when it was, and what overtook it is the last of these commands that is
-- for its cell.
pub record IsStagedStill (before now : Staging) (commands : List Numbered) : Type 0 where
  pub same : now.staged ≡ record before.staged { done = now.staged.done }
  pub begun : now.begun ≡ before.begun
  pub last : now.last ≡ last_or before.last (numbers_for (key_in before.staged.file) commands)

-- a command was accepted for the cell of the file that is staged, and these are the numbers that tell it
pub record IsOvertaken (model : Model) (values : List ℕ) : Type 0 where
  pub staging : Staging
  pub some : model.staging ≡ Some staging
  pub last : ℕ
  pub over : staging.last ≡ Some last
  pub told : values ≡ join_with_byte 32 (numbers (staging.begun ∷ last ∷ []))

-- the same of the numbers of commands that were accepted for it since so many were
pub record TellsLast (begun : ℕ) (since : List ℕ) (values : List ℕ) : Type 0 where
  pub last : ℕ
  pub is : last_or None since ≡ Some last
  pub told : values ≡ join_with_byte 32 (numbers (begun ∷ last ∷ []))

-- What the lines `begin`, `step` and `commit` reply, and what they leave. What is held stays, but for a commit that is
-- accepted.
use Rattle.std.specs.Prelude.{◌≡◌, ℕ, List, length, Option, Some, None, Result, Ok, Err}
use Rattle.chart_model.specs.Answers.{◌>>=◌, or_fault_as}
use Rattle.chart_model.specs.State.{StateValue}
use Rattle.chart_ports.specs.declared.shelf.Fetched.{Fetched}
use Rattle.chart_store.specs.Loaded.{FILE_LIMIT}
use Rattle.chart_store.specs.Staging.{IsStagedOn, StagedValue, changes_in, key_in, staged_by, step_of}
use Rattle.chart_store.specs.declared.refusal.Refusal as of_store
use Rattle.script_reader.specs.declared.event.Event.{Event}
use Rattle.script_reader.specs.declared.event.Event.TheVariants as asks
use Rattle.script_reader.specs.declared.reply.Reply.TheVariants as replies
use Rattle.session_core.specs.declared.refusal.LineRefusal.{LineRefusal}
use Rattle.session_core.specs.declared.refusal.LineRefusal.TheVariants.{Busy, NothingBegun, Overtaken, Store}
use Rattle.session_core.specs.Fetch.{file_in}
use Rattle.session_core.specs.Model.{Model, Staging, with_staging}
use Rattle.session_core.specs.Order.{commit_order, order_turn}
use Rattle.session_core.specs.Replied.{Turn, refusal_turn}

-- ---- `begin`

-- so many commands were accepted when it was staged, and none since
abbrev pub staging_at : ℕ → StagedValue → Staging
staging_at count staged = record { staged = staged; begun = count; last = None }

-- a file as it is staged on what is held, or why the line is refused
abbrev pub staged_in : ℕ → StateValue → Result (List ℕ) LineRefusal → Result Staging LineRefusal
staged_in count state file = do
  bytes ← file
  staged ← or_fault_as Store (staged_by state bytes)
  Ok (staging_at count staged)

abbrev pub staged_turn : Model → Result Staging LineRefusal → Turn
staged_turn model (Ok staging) = record {
  reply = replies.Begin (key_in staging.staged.file) (length (changes_in staging.staged.file));
  command = None;
  model = with_staging model (Some staging);
}
staged_turn model (Err refusal) = refusal_turn model refusal

-- the file of a name is staged, as the shelf answers, unless one is staged
abbrev pub stage_turn : Model → List ℕ → Option Fetched → Option Staging → Turn
stage_turn model name fetched (Some staging) = refusal_turn model Busy
stage_turn model name fetched None =
    staged_turn model (staged_in model.count model.state (file_in FILE_LIMIT name fetched))

-- ---- `step`

-- nothing is staged any more
abbrev pub unstaged : Model → Model
unstaged model = with_staging model None

-- a change that can't be made ends it
abbrev pub changed_turn : Model → Staging → Result StagedValue of_store.Refusal → Turn
changed_turn model staging (Ok staged) = record {
  reply = replies.Step staged.done (length (changes_in staged.file));
  command = None;
  model = with_staging model (Some (record staging { staged = staged }));
}
changed_turn model staging (Err refusal) = refusal_turn (unstaged model) (Store refusal)

-- so many changes more of the file that is staged are made
abbrev pub change_turn : Model → ℕ → Option Staging → Turn
change_turn model n None = refusal_turn model NothingBegun
change_turn model n (Some staging) = changed_turn model staging (step_of n staging.staged)

-- ---- `commit`

-- where a command was accepted for its cell since, it is refused; and else it is loaded
abbrev pub committed_turn : Model → Staging → Option ℕ → Turn
committed_turn model staging (Some last) = refusal_turn model (Overtaken staging.begun last)
committed_turn model staging None = order_turn model (Ok (commit_order staging.staged.file))

-- the file that is staged is taken over; whatever is replied, nothing is staged then
abbrev pub commit_turn : Model → Option Staging → Turn
commit_turn model None = refusal_turn model NothingBegun
commit_turn model (Some staging) = committed_turn (unstaged model) staging staging.last

-- ---- what is kept

-- a file that nothing has overtaken is staged on what is held now
abbrev pub StandsOn : StateValue → Option Staging → Type 0
StandsOn state None = Unit {0}
StandsOn state (Some staging) = staging.last ≡ None → IsStagedOn state staging.staged

-- the lines about a file that is staged
abbrev pub IsOfStaging : Event → Type 0
IsOfStaging (asks.Begin name) = Unit {0}
IsOfStaging (asks.Step n) = Unit {0}
IsOfStaging asks.Commit = Unit {0}
IsOfStaging other = ⊥

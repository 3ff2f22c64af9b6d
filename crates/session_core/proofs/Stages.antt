-- A file that is staged, in turns.
use Rattle.std.proofs.Common.{◌≡◌, ℕ, List, Option, Some, None, Result, Ok, Err, refl}
use Rattle.chart_model.specs.Answers.{◌>>=◌, or_fault_as}
use Rattle.chart_ports.specs.declared.shelf.Fetched.{Fetched}
use Rattle.chart_store.specs.Loaded.{FILE_LIMIT}
use Rattle.chart_store.specs.Staging.{StagedValue, changes_in, key_in, staged_by, step_of}
use Rattle.chart_store.specs.declared.refusal.Refusal as of_store
use Rattle.std.specs.Prelude.{length}
use Rattle.script_reader.specs.declared.reply.Reply.TheVariants as replies
use Rattle.session_core.specs.declared.refusal.LineRefusal.{LineRefusal}
use Rattle.session_core.specs.declared.refusal.LineRefusal.TheVariants as line
use Rattle.session_core.specs.Fetch.{file_in}
use Rattle.session_core.specs.Model.{Model, Staging, with_staging}
use Rattle.session_core.specs.Order.{commit_order, order_turn}
use Rattle.session_core.specs.Replied.{Turn, refusal_turn}
use Rattle.session_core.specs.Staging.{change_turn, changed_turn, commit_turn, committed_turn, stage_turn, staged_in, staged_turn, staging_at, unstaged}

-- a file is staged
abbrev pub begun_with : Model → Staging → Turn
begun_with model staging = record {
  reply = replies.Begin (key_in staging.staged.file) (length (changes_in staging.staged.file));
  command = None;
  model = with_staging model (Some staging);
}

-- changes of it are made
abbrev pub changed_with : Model → Staging → StagedValue → Turn
changed_with model staging staged = record {
  reply = replies.Step staged.done (length (changes_in staged.file));
  command = None;
  model = with_staging model (Some (record staging { staged = staged }));
}

-- what holds of each turn that a line about it may take
module _ (P : Turn → Type 0) (model : Model) where
  pub by-stage : (name : List ℕ) (fetched : Option Fetched) (staging : Option Staging)
      → ((refusal : LineRefusal) → P (refusal_turn model refusal))
      → ((staged : StagedValue) → staging ≡ None → P (begun_with model (staging_at model.count staged)))
      → P (stage_turn model name fetched staging)
  by-stage name fetched (Some staging) refused begun = refused line.Busy
  by-stage name fetched None refused begun = by-file (file_in FILE_LIMIT name fetched)
    where
      by : (r : Result StagedValue of_store.Refusal)
          → P (staged_turn model (or_fault_as line.Store r >>= λ staged. Ok (staging_at model.count staged)))
      by (Ok staged) = begun staged refl
      by (Err refusal) = refused (line.Store refusal)

      by-file : (r : Result (List ℕ) LineRefusal) → P (staged_turn model (staged_in model.count model.state r))
      by-file (Ok file) = by (staged_by model.state file)
      by-file (Err refusal) = refused refusal

  pub by-change : (n : ℕ) (staging : Option Staging) → (staging ≡ None → P (refusal_turn model line.NothingBegun))
      → ((begun : Staging) (staged : StagedValue) → staging ≡ Some begun → step_of n begun.staged ≡ Ok staged → P (changed_with model begun staged))
      → ((begun : Staging) (refusal : of_store.Refusal) → staging ≡ Some begun → P (refusal_turn (unstaged model) (line.Store refusal)))
      → P (change_turn model n staging)
  by-change n None none changed refused = none refl
  by-change n (Some begun) none changed refused = by (step_of n begun.staged) refl
    where
      by : (r : Result StagedValue of_store.Refusal) → step_of n begun.staged ≡ r → P (changed_turn model begun r)
      by (Ok staged) e = changed begun staged refl e
      by (Err refusal) e = refused begun refusal refl

  pub by-commit : (staging : Option Staging) → (staging ≡ None → P (refusal_turn model line.NothingBegun))
      → ((begun : Staging) (last : ℕ) → staging ≡ Some begun → begun.last ≡ Some last → P (refusal_turn (unstaged model) (line.Overtaken begun.begun last)))
      → ((begun : Staging) → staging ≡ Some begun → begun.last ≡ None → P (order_turn (unstaged model) (Ok (commit_order begun.staged.file))))
      → P (commit_turn model staging)
  by-commit None none over taken = none refl
  by-commit (Some begun) none over taken =
      elim begun.last as (λ (last : Option ℕ). begun.last ≡ last → P (committed_turn (unstaged model) begun last)) [
        | Some last ↦ λ e. over begun last refl e
        | None ↦ λ e. taken begun refl e
      ] refl

-- What comes of a file that is to be staged.
use Rattle.std.proofs.Common.{◌≡◌, inl, ℕ, ◌+◌, ◌≤◌, true, false, List, Option, Some, None, Result, Ok, Err, refl, sym, ◌∙◌, ap, subst}
use Rattle.std.specs.Prelude.{IsErrAnd, is_some, length, option_map}
use Rattle.chart_model.specs.Answers.{◌>>=◌, FailsBy, GivesBy, or_fault_as}
use Rattle.chart_model.specs.State.{StateValue}
use Rattle.chart_ports.specs.declared.shelf.Fetched.{Fetched}
use Rattle.chart_store.specs.Loaded.{FILE_LIMIT, come_to}
use Rattle.chart_store.specs.Staging.{StagedValue, changes_in, key_in, staged_by}
use Rattle.chart_store.specs.Submitted.{told}
use Rattle.chart_store.specs.declared.refusal.Refusal as of_store
use Rattle.chart_store.specs.declared.submit_fault.SubmitFault.{SubmitFault}
use Rattle.chart_store.specs.declared.submit_fault.SubmitFault.TheVariants as of_submit
use Rattle.script_reader.specs.declared.reply.Reply.{Reply}
use Rattle.script_reader.specs.declared.reply.Reply.TheVariants as replies
use Rattle.session_core.specs.declared.fault.EventFault.{EventFault}
use Rattle.session_core.specs.declared.fault.EventFault.TheVariants.{Refused, DeskFault, NoMemory}
use Rattle.session_core.specs.declared.refusal.LineRefusal.{LineRefusal}
use Rattle.session_core.specs.declared.refusal.LineRefusal.TheVariants as line
use Rattle.session_core.specs.declared.staging.Staging as of_code
use Rattle.session_core.specs.Answers.{Gives, fault_of_submit, refusal_of_event}
use Rattle.session_core.specs.Fetch.{file_in}
use Rattle.session_core.specs.Model.{Model, Staging, with_staging}
use Rattle.session_core.specs.Replied.{Turn, refusal_turn}
use Rattle.session_core.specs.Session.{GivesEvent, staging_of}
use Rattle.session_core.specs.Staging.{stage_turn, staged_in, staged_turn, staging_at}
use Rattle.session_core.specs.Steps.{most_steps_to_stage, records_to_stage}
use Rattle.session_core.proofs.Fetching.{passed-is}
use Rattle.session_core.proofs.Turning.{passed-event}

-- ---- a file that is staged

abbrev GivesStaging : Result of_code.Staging EventFault → Result Staging LineRefusal → Type 0
GivesStaging answer wanted = GivesBy refusal_of_event staging_of answer wanted

module _ (count : ℕ) (state : StateValue) (wanted : Result (List ℕ) LineRefusal) where
  unfetched : (fault : EventFault) → Gives {A = List ℕ} (Err fault) wanted → GivesStaging (Err fault) (staged_in count state wanted)
  unfetched (Refused refusal) h = ap (staged_in count state) h
  unfetched DeskFault h = tt
  unfetched NoMemory h = tt

  pub stage-unfetched : (r : Result of_code.Staging EventFault) (fault : EventFault) → IsErrAnd r (λ passed. passed ≡ fault)
      → Gives {A = List ℕ} (Err fault) wanted → GivesStaging r (staged_in count state wanted)
  stage-unfetched r fault passed h =
      subst (λ (s : Result of_code.Staging EventFault). GivesStaging s (staged_in count state wanted)) (sym (passed-is r fault passed)) (unfetched fault h)

  module _ (file : List ℕ) (found : wanted ≡ Ok file) where
    staged-as : staged_in count state wanted ≡ (or_fault_as line.Store (staged_by state file) >>= λ staged. Ok (staging_at count staged))
    staged-as = ap (staged_in count state) found

    refused : (fault : SubmitFault) → FailsBy told fault (staged_by state file) → GivesStaging (Err (fault_of_submit fault)) (staged_in count state wanted)
    refused (of_submit.Refused refusal) h =
        staged-as ∙ ap (λ (r : Result StagedValue of_store.Refusal). or_fault_as line.Store r >>= λ staged. Ok (staging_at count staged)) h
    refused of_submit.DeskFault h = tt
    refused of_submit.NoMemory h = tt

    pub stage-refused : (r : Result of_code.Staging EventFault) (fault : SubmitFault) → IsErrAnd r (λ passed. passed ≡ fault_of_submit fault)
        → FailsBy told fault (staged_by state file) → GivesStaging r (staged_in count state wanted)
    stage-refused r fault passed h =
        subst (λ (s : Result of_code.Staging EventFault). GivesStaging s (staged_in count state wanted)) (sym (passed-is r (fault_of_submit fault) passed))
        (refused fault h)

    pub stage-done : (staged : StagedValue) (staging : of_code.Staging) → staged_by state file ≡ Ok staged → staging_of staging ≡ staging_at count staged
        → staged_in count state wanted ≡ Ok (staging_of staging)
    stage-done staged staging h is =
        staged-as ∙ ap (λ (r : Result StagedValue of_store.Refusal). or_fault_as line.Store r >>= λ staged. Ok (staging_at count staged)) h ∙ ap Ok (sym is)

    pub stage-within : (steps taken : ℕ) → taken ≤ steps + come_to file → taken ≤ steps + records_to_stage wanted
    stage-within steps taken h = subst (λ (n : ℕ). taken ≤ steps + n) (sym (ap records_to_stage found)) h

-- ---- the line `begin`

-- whether something is staged
pub staged-some : (o : Option of_code.Staging) → is_some o ≡ true → is_some (option_map staging_of o) ≡ true
staged-some None some = some
staged-some (Some staging) some = refl

pub staged-none : (o : Option of_code.Staging) → is_some o ≡ false → option_map staging_of o ≡ None
staged-none None none = refl
staged-none (Some staging) none = absurd cc

pub stage-most : (old : Option Staging) (file : Result (List ℕ) LineRefusal) (steps taken : ℕ) → old ≡ None → taken ≤ steps + records_to_stage file
    → taken ≤ steps + most_steps_to_stage old file
stage-most old file steps taken none h = subst (λ (o : Option Staging). taken ≤ steps + most_steps_to_stage o file) (sym none) h

module _ (model : Model) (count : ℕ) (state : StateValue) (name : List ℕ) (fetched : Option Fetched) (old : Option Staging)
    (held : model.state ≡ state) (counted : model.count ≡ count) (is : model.staging ≡ old) where
  same-model : with_staging model old ≡ model
  same-model = ap (with_staging model) (sym is)

  busy : (staging : Option Staging) → model.staging ≡ staging → is_some staging ≡ true
      → stage_turn model name fetched model.staging ≡ refusal_turn model line.Busy
  busy None at some = absurd cc
  busy (Some staging) at some = ap (stage_turn model name fetched) at

  pub busy-gives : is_some old ≡ true → GivesEvent (Err (Refused line.Busy)) model (with_staging model old) (stage_turn model name fetched model.staging)
  busy-gives some = (busy old is some, same-model)

  stages : old ≡ None → stage_turn model name fetched model.staging ≡ staged_turn model (staged_in count state (file_in FILE_LIMIT name fetched))
  stages none =
      ap (stage_turn model name fetched) (is ∙ none)
      ∙ ap (λ (n : ℕ). staged_turn model (staged_in n model.state (file_in FILE_LIMIT name fetched))) counted
      ∙ ap (λ (s : StateValue). staged_turn model (staged_in count s (file_in FILE_LIMIT name fetched))) held

  by-fault : old ≡ None → (fault : EventFault) → GivesStaging (Err fault) (staged_in count state (file_in FILE_LIMIT name fetched))
      → GivesEvent (Err fault) model (with_staging model old) (stage_turn model name fetched model.staging)
  by-fault none (Refused refusal) h = (stages none ∙ ap (staged_turn model) h, same-model)
  by-fault none DeskFault h = refl
  by-fault none NoMemory h = inl refl

  pub unbegun-gives : (r : Result Reply EventFault) (fault : EventFault) → old ≡ None → IsErrAnd r (λ passed. passed ≡ fault)
      → GivesStaging (Err fault) (staged_in count state (file_in FILE_LIMIT name fetched))
      → GivesEvent r model (with_staging model old) (stage_turn model name fetched model.staging)
  unbegun-gives r fault none passed h =
      passed-event r fault model (with_staging model old) (stage_turn model name fetched model.staging) passed (by-fault none fault h)

  pub begun-gives : (staging : Staging) (key : List ℕ) (total : ℕ) → old ≡ None → staged_in count state (file_in FILE_LIMIT name fetched) ≡ Ok staging
      → key ≡ key_in staging.staged.file → total ≡ length (changes_in staging.staged.file)
      → GivesEvent (Ok (replies.Begin key total)) model (with_staging model (Some staging)) (stage_turn model name fetched model.staging)
  begun-gives staging key total none h of-key of-total =
      let turn = stages none ∙ ap (staged_turn model) h in (
        ap (λ (t : Turn). t.reply) turn ∙ (λ i. replies.Begin (sym of-key i) (sym of-total i)),
        ap (λ (t : Turn). t.model) turn,
      )

-- A line's reply, and how it is said.
use Rattle.std.proofs.Common.{◌≡◌, ℕ, ◌<◌, ◌≤◌, Bool, true, false, List, [], ◌∷◌, ◌++◌, length, refl, sym, ◌∙◌, ap}
use Rattle.std.proofs.Common.{subst, arith, inl, inr}
use Rattle.std.specs.Prelude.{Option, Some, None, Result, Ok, Err, IsErr}
use Rattle.std.specs.declared.alloc.Global.{Global}
use Rattle.std.specs.declared.dyn_box.DynBox.{DynBox}
use Rattle.std.proofs.lemmas.List.{append-nil}
use Rattle.std.proofs.lemmas.List.Elements.{All-nil, All-cons}
use Rattle.chart_model.specs.State.{StateValue}
use Rattle.chart_model.specs.declared.command.Command.{Command}
use Rattle.chart_ports.specs.Disk.{SameFiles}
use Rattle.chart_ports.specs.Moments.{Elapses, LeavesOnly, MayBeLeft, images_of}
use Rattle.chart_ports.specs.Said.{SaysFront}
use Rattle.chart_ports.specs.declared.images.Images.{Images}
use Rattle.chart_ports.proofs.Moments.{started, goes_on, and_then, weaker}
use Rattle.chart_store.specs.Images.{StandFor}
use Rattle.chart_store.specs.Outcome.{after, state_with}
use Rattle.chart_store.specs.Store.{StandsForEither}
use Rattle.panel_scenes.specs.Scene.{SceneValue}
use Rattle.script_reader.specs.Reading.{event_in}
use Rattle.script_reader.specs.Reply.{bytes_of_reply}
use Rattle.script_reader.specs.declared.event.Event.{Event}
use Rattle.script_reader.specs.declared.fault.LineFault.{LineFault}
use Rattle.script_reader.specs.declared.reply.Reply.{Reply}
use Rattle.session_core.specs.Fetch.{AreFetched, Files}
use Rattle.session_core.specs.Session.{GivesTurn, TakesTurn}
use Rattle.session_core.specs.Model.{Model, model_with, with_staging}
use Rattle.session_core.specs.Outside.{FromOutside}
use Rattle.session_core.specs.Replied.{Turn}
use Rattle.session_core.specs.Steps.{TakesAtMost, most_steps_at}
use Rattle.session_core.specs.Turn.{turn_of}
use Rattle.session_core.specs.declared.fault.TurnFault.{TurnFault}
use Rattle.ecdis_cli.specs.Crash.{LeavesPrefix}
use Rattle.ecdis_cli.specs.Panels.{KeepFailures, Members, PanelValue, starts_left}
use Rattle.ecdis_cli.specs.Progress.{LineIsAnswered, PanelsFollow, ReplyIsInterrupted, IsSpoken, StepsAreTaken, step_at}
use Rattle.ecdis_cli.specs.declared.run.stop.Stop.{Stop}
use Rattle.ecdis_cli.specs.Replied.{GivesStep, LeavesSaying, ReplyIsFound}
use Rattle.ecdis_cli.specs.Script.{IsAnswer, commands_in, commands_of, model_after, output_of}
use Rattle.ecdis_cli.specs.Step.{Step, said_in, said_of, step_by, step_of, step_to}
use Rattle.ecdis_cli.specs.Standing.{Standing}
use Rattle.ecdis_cli.proofs.Counting.{counted-one, counted-turn, counted-within}
use Rattle.ecdis_cli.proofs.Crashes.{prefix-saying, prefix-turn}
use Rattle.ecdis_cli.proofs.Failures.{TellsFailure, failed-one}
use Rattle.ecdis_cli.proofs.Lists.{after-none, after-one}
use Rattle.ecdis_cli.proofs.Panels.{AreOfBoxes, known-counted}
use Rattle.ecdis_cli.proofs.Taking.{Where, front-none, unfailing}

-- ---- what holds of a step

-- a turn without a command leaves what is held as it was
abbrev pub Rests : Type 0
Rests = (outside : FromOutside) (model : Model) (event : Event) → (turn_of outside model event).command ≡ None
    → (turn_of outside model event).model.state ≡ model.state

-- a turn with one leaves what it leaves
abbrev pub Follows : Type 0
Follows = (outside : FromOutside) (model : Model) (event : Event) (command : Command) → (turn_of outside model event).command ≡ Some command
    → (turn_of outside model event).model
    ≡ with_staging (model_with model command (state_with model.state command)) (turn_of outside model event).model.staging

abbrev pub Speaks : Type 0
Speaks = (reply : Reply) → 0 < length (bytes_of_reply reply)

turn-held : Rests → Follows → (outside : FromOutside) (model : Model) (event : Event) (command : Option Command) → (turn_of outside model event).command ≡ command
    → (turn_of outside model event).model.state ≡ after model.state (commands_of command ++ [])
turn-held rests follows outside model event None e = rests outside model event e ∙ sym (after-none model.state)
turn-held rests follows outside model event (Some command) e =
    ap (λ (m : Model). m.state) (follows outside model event command e) ∙ sym (after-one model.state command)

held-by : Rests → Follows → (outside : FromOutside) (model : Model) (number : ℕ) (asked : Result (Option Event) LineFault)
    → (step_by outside model number asked).model.state ≡ after model.state (commands_in (step_by outside model number asked ∷ []))
held-by rests follows outside model number (Ok None) = sym (after-none model.state)
held-by rests follows outside model number (Ok (Some event)) = turn-held rests follows outside model event (turn_of outside model event).command refl
held-by rests follows outside model number (Err fault) = sym (after-none model.state)

pub step-held : Rests → Follows → (outside : FromOutside) (model : Model) (number : ℕ) (line : List ℕ)
    → (step_to outside model number line).model.state ≡ after model.state (commands_in (step_to outside model number line ∷ []))
unfolding step_to
step-held rests follows outside model number line = held-by rests follows outside model number (event_in number line)

spoken-by : Speaks → (outside : FromOutside) (model : Model) (number : ℕ) (asked : Result (Option Event) LineFault) → IsSpoken (step_by outside model number asked)
spoken-by speaks outside model number (Ok None) = inl refl
spoken-by speaks outside model number (Ok (Some event)) = inr (speaks (turn_of outside model event).reply)
spoken-by speaks outside model number (Err fault) = inl refl

step-spoken : Speaks → (outside : FromOutside) (model : Model) (number : ℕ) (line : List ℕ) → IsSpoken (step_to outside model number line)
unfolding step_to
step-spoken speaks outside model number line = spoken-by speaks outside model number (event_in number line)

-- what is said of a step: its reply, the model after it, and how panels go along with it
abbrev pub Goes : Standing → Option Reply → Standing → Step → Type 0
Goes before reply now step =
    (step.reply ≡ reply) × (step.model ≡ now.model) × PanelsFollow before.model before.panels (step ∷ []) now.panels

-- ---- the step is taken

pub Taken-one : Rests → Follows → Speaks → TellsFailure → (tells : Bool) (files : Files) (Leaves : (Images → List ℕ → Type 0) → Type 0)
    (before : Standing) (faults count : ℕ) (outside : FromOutside) → before.faults ≤ faults
    → AreFetched tells files before.faults faults outside.fetches
    → TakesAtMost (step_at outside before).most before.model.state (step_at outside before).model.state
    before.count count
    → Leaves (LeavesPrefix before.model.state (step_at outside before ∷ []) before.said)
    → StepsAreTaken tells files Leaves before faults count (outside ∷ []) (step_at outside before ∷ [])
Taken-one rests follows speaks law tells files Leaves before faults count outside later answers counted crash =
    let step : Step = step_at outside before in
    record {
      told = All-cons (IsAnswer tells files) outside [] answers.told (All-nil (IsAnswer tells files));
      spoken = All-cons IsSpoken step [] (step-spoken speaks outside before.model before.number before.line) (All-nil IsSpoken);
      held = step-held rests follows outside before.model before.number before.line;
      failed = failed-one law outside before.model before.number before.line before.faults faults later answers.cause;
      later = later;
      crash = crash;
      counted = counted-one before.model step before.count count counted;
    }

-- the output of a step that has a reply
output-replied : (step : Step) (reply : Reply) → step.reply ≡ Some reply → output_of (step ∷ []) ≡ bytes_of_reply reply
output-replied step reply is = append-nil (said_in step) ∙ ap said_of is

module _ {D : Type 0} (clock : D → ℕ) (might : D → ℕ → Images → List ℕ → Type 0) (Stood : Type 0)
    (rests : Rests) (follows : Follows) (speaks : Speaks) (law : TellsFailure)
    (tells : Bool) (files : Files) (before : Standing) (faults count : ℕ) (later : before.faults ≤ faults) where
  -- the moments of a turn
  turn-crash : (d0 d1 : D) (outside : FromOutside)
      → LeavesOnly clock might d0 d1 (StandsForEither before.said before.model.state (step_at outside before).model.state)
      → LeavesOnly clock might d0 d1 (LeavesPrefix before.model.state (step_at outside before ∷ []) before.said)
  turn-crash d0 d1 outside moments =
      let step : Step = step_at outside before in
      weaker clock might d0 d1 (StandsForEither before.said before.model.state step.model.state) (LeavesPrefix before.model.state (step ∷ []) before.said)
      (λ images so_far x. prefix-turn before.model.state step.model.state step before.said so_far images
      (step-held rests follows outside before.model before.number before.line) x) moments

  -- the step is taken, with what was counted then
  taken-step : (d0 d1 : D) (now : Standing) (outside : FromOutside) → now.faults ≡ faults → now.count ≡ count
      → AreFetched tells files before.faults faults outside.fetches
      → TakesAtMost (step_at outside before).most before.model.state (step_at outside before).model.state
      before.count count
      → Where Stood (LeavesOnly clock might d0 d1) (LeavesPrefix before.model.state (step_at outside before ∷ []) before.said)
      → StepsAreTaken tells files (Where Stood (LeavesOnly clock might d0 d1)) before now.faults now.count (outside ∷ [])
      (step_at outside before ∷ [])
  taken-step d0 d1 now outside failed stepped answers counted crash =
      let Leaves = Where Stood (LeavesOnly clock might d0 d1) in
      let steps : List Step = step_at outside before ∷ [] in
      subst (λ (n : ℕ). StepsAreTaken tells files Leaves before n now.count (outside ∷ []) steps) (sym failed)
      (subst (λ (n : ℕ). StepsAreTaken tells files Leaves before faults n (outside ∷ []) steps) (sym stepped)
      (Taken-one rests follows speaks law tells files Leaves before faults count outside later answers counted crash))

  -- there is no reply
  pub answered-silent : (IsGiven : Step → Type 0) (d0 d1 : D) (now : Standing) → now.faults ≡ faults → now.count ≡ count
      → now.said ≡ before.said
      → ((step : Step) → IsGiven step → Goes before None now step)
      → ReplyIsFound tells files (Where Stood (LeavesOnly clock might d0 d1)) before faults count IsGiven
      → LineIsAnswered tells files (Where Stood (LeavesOnly clock might d0 d1)) before now
  answered-silent IsGiven d0 d1 now failed stepped silent gives x =
      let step : Step = step_at x.outside before in
      let given : Goes before None now step = gives step x.gives in
      record {
        outside = x.outside;
        taken = taken-step d0 d1 now x.outside failed stepped x.answers x.counted (λ stood. turn-crash d0 d1 x.outside (x.leaves stood));
        after = record {
          said = silent ∙ sym (append-nil before.said) ∙ ap (λ (o : Option Reply). before.said ++ (said_of o ++ [])) (sym given.0);
          reached = sym given.1;
          panels = given.2;
        };
      }

  -- it isn't come to
  pub interrupted-before : (IsGiven : Step → Type 0) (d0 d1 : D) (now : Standing) → now.faults ≡ faults
      → now.count ≡ count
      → now.said ≡ before.said
      → ((step : Step) → IsGiven step → KeepFailures before.model.scenes before.panels now.panels)
      → ReplyIsFound tells files (Where Stood (LeavesOnly clock might d0 d1)) before faults count IsGiven
      → ReplyIsInterrupted tells files (Where Stood (LeavesOnly clock might d0 d1)) before now
  interrupted-before IsGiven d0 d1 now failed stepped silent gives x =
      let step : Step = step_at x.outside before in
      record {
        outside = x.outside;
        taken = taken-step d0 d1 now x.outside failed stepped x.answers x.counted (λ stood. turn-crash d0 d1 x.outside (x.leaves stood));
        front = front-none before.said (output_of (step ∷ [])) now.said silent;
        panels = record {
          answered = [];
          others = step ∷ [];
          whole = refl;
          begun = front-none before.said [] now.said silent;
          told = λ starts known. tt;
          counted = gives step x.gives;
        };
      }

  -- the moments of a turn, and of its reply
  said-crash : (d0 d1 d2 : D) (may_leave : ℕ → List ℕ → Type 0) (outside : FromOutside) (left : Model) (reply : Reply) (middle : List ℕ) → middle ≡ before.said
      → (step_at outside before).reply ≡ Some reply → (step_at outside before).model ≡ left
      → ((images : Images) → MayBeLeft may_leave images → StandFor images left.state)
      → LeavesOnly clock might d0 d1 (StandsForEither before.said before.model.state (step_at outside before).model.state)
      → LeavesOnly clock might d1 d2 (LeavesSaying may_leave middle (bytes_of_reply reply))
      → LeavesOnly clock might d0 d2 (LeavesPrefix before.model.state (step_at outside before ∷ []) before.said)
  said-crash d0 d1 d2 may_leave outside left reply middle silent replied reached stands first then_said =
      let step : Step = step_at outside before in
      and_then clock might d0 d1 d2 (LeavesPrefix before.model.state (step ∷ []) before.said) (turn-crash d0 d1 outside first)
      (weaker clock might d1 d2 (LeavesSaying may_leave middle (bytes_of_reply reply)) (LeavesPrefix before.model.state (step ∷ []) before.said)
      (λ images so_far x. prefix-saying before.model.state left.state step before.said so_far images
      (ap (λ (m : Model). m.state) (sym reached) ∙ step-held rests follows outside before.model before.number before.line)
      (stands images x.left)
      (subst (λ (l : List ℕ). SaysFront before.said l so_far) (ap said_of (sym replied))
      (subst (λ (l : List ℕ). SaysFront l (bytes_of_reply reply) so_far) silent x.front))) then_said)

  -- what is taken of the script where a reply is begun
  taken-said : (IsGiven : Step → Type 0) (d0 d1 d2 : D) (may_leave : ℕ → List ℕ → Type 0) (reply : Reply) (middle : List ℕ) (now : Standing)
      → now.faults ≡ faults → now.count ≡ count → middle ≡ before.said
      → ((step : Step) → IsGiven step → Goes before (Some reply) now step)
      → (Stood → (images : Images) → MayBeLeft may_leave images → StandFor images now.model.state)
      → (x : ReplyIsFound tells files (Where Stood (LeavesOnly clock might d0 d1)) before faults count IsGiven)
      → LeavesOnly clock might d1 d2 (LeavesSaying may_leave middle (bytes_of_reply reply))
      → StepsAreTaken tells files (Where Stood (LeavesOnly clock might d0 d2)) before now.faults now.count (x.outside ∷ [])
      (step_at x.outside before ∷ [])
  taken-said IsGiven d0 d1 d2 may_leave reply middle now failed stepped silent gives stands x then_said =
      let step : Step = step_at x.outside before in
      let given : Goes before (Some reply) now step = gives step x.gives in
      taken-step d0 d2 now x.outside failed stepped x.answers x.counted
      (λ stood. said-crash d0 d1 d2 may_leave x.outside now.model reply middle silent given.0 given.1 (stands stood) (x.leaves stood) then_said)

  -- the reply was said
  pub answered-said : (IsGiven : Step → Type 0) (d0 d1 d2 : D) (may_leave : ℕ → List ℕ → Type 0) (reply : Reply) (middle : List ℕ) (now : Standing)
      → now.faults ≡ faults → now.count ≡ count → middle ≡ before.said → now.said ≡ middle ++ bytes_of_reply reply
      → ((step : Step) → IsGiven step → Goes before (Some reply) now step)
      → (Stood → (images : Images) → MayBeLeft may_leave images → StandFor images now.model.state)
      → ReplyIsFound tells files (Where Stood (LeavesOnly clock might d0 d1)) before faults count IsGiven
      → LeavesOnly clock might d1 d2 (LeavesSaying may_leave middle (bytes_of_reply reply))
      → LineIsAnswered tells files (Where Stood (LeavesOnly clock might d0 d2)) before now
  answered-said IsGiven d0 d1 d2 may_leave reply middle now failed stepped silent said gives stands x then_said =
      let step : Step = step_at x.outside before in
      let given : Goes before (Some reply) now step = gives step x.gives in
      record {
        outside = x.outside;
        taken = taken-said IsGiven d0 d1 d2 may_leave reply middle now failed stepped silent gives stands x then_said;
        after = record {
          said = said ∙ ap (λ (l : List ℕ). l ++ bytes_of_reply reply) silent ∙ ap (λ (l : List ℕ). before.said ++ l) (sym (output-replied step reply given.0));
          reached = sym given.1;
          panels = given.2;
        };
      }

  -- a front of the reply was said
  pub interrupted-said : (IsGiven : Step → Type 0) (d0 d1 d2 : D) (may_leave : ℕ → List ℕ → Type 0) (reply : Reply) (middle : List ℕ) (now : Standing)
      → now.faults ≡ faults → now.count ≡ count → middle ≡ before.said
      → SaysFront middle (bytes_of_reply reply) now.said
      → ((step : Step) → IsGiven step → Goes before (Some reply) now step)
      → (Stood → (images : Images) → MayBeLeft may_leave images → StandFor images now.model.state)
      → ReplyIsFound tells files (Where Stood (LeavesOnly clock might d0 d1)) before faults count IsGiven
      → LeavesOnly clock might d1 d2 (LeavesSaying may_leave middle (bytes_of_reply reply))
      → ReplyIsInterrupted tells files (Where Stood (LeavesOnly clock might d0 d2)) before now
  interrupted-said IsGiven d0 d1 d2 may_leave reply middle now failed stepped silent front gives stands x then_said =
      let step : Step = step_at x.outside before in
      let given : Goes before (Some reply) now step = gives step x.gives in
      let said : SaysFront before.said (output_of (step ∷ [])) now.said
      = subst (λ (l : List ℕ). SaysFront before.said l now.said) (sym (output-replied step reply given.0))
      (subst (λ (l : List ℕ). SaysFront l (bytes_of_reply reply) now.said) silent front) in
      record {
        outside = x.outside;
        taken = taken-said IsGiven d0 d1 d2 may_leave reply middle now failed stepped silent gives stands x then_said;
        front = said;
        panels = record {
          answered = step ∷ [];
          others = [];
          whole = refl;
          begun = said;
          told = given.2.told;
          counted = λ starts known. known-counted (starts_left starts (step ∷ [])) now.panels
              (model_after before.model (step ∷ [])).scenes (given.2.known starts known);
        };
      }

-- ---- the reply is said

module _ {D : Type 0} (clock : D → ℕ) (might : D → ℕ → Images → List ℕ → Type 0) where
  -- nothing of it yet
  pub saying-none : (desk : D) (may_leave : ℕ → List ℕ → Type 0) (said reply : List ℕ)
      → ((images : Images) (so_far : List ℕ) → might desk (clock desk) images so_far → MayBeLeft may_leave images × (so_far ≡ said))
      → LeavesOnly clock might desk desk (LeavesSaying may_leave said reply)
  saying-none desk may_leave said reply only_now =
      started clock might desk (LeavesSaying may_leave said reply)
      (λ images so_far left. let now = only_now images so_far left in record { left = now.0; front = front-none said reply so_far now.1 })

  -- in one call
  pub saying-done : (desk new : D) (may_leave : ℕ → List ℕ → Type 0) (said reply : List ℕ)
      → ((images : Images) (so_far : List ℕ) → might desk (clock desk) images so_far → MayBeLeft may_leave images × (so_far ≡ said))
      → Elapses (clock desk) (clock new) (might desk) (might new) may_leave (SaysFront said reply)
      → LeavesOnly clock might desk new (LeavesSaying may_leave said reply)
  saying-done desk new may_leave said reply only_now time =
      goes_on clock might desk desk new (LeavesSaying may_leave said reply) may_leave (SaysFront said reply)
      (saying-none desk may_leave said reply only_now) time
      (λ images so_far left front. record { left = left; front = front })

  -- the same moments under a premise that holds
  pub Replied-told : (T Stood : Type 0) → T → (tells : Bool) (files : Files) (before : Standing) (faults count : ℕ)
      (IsGiven : Step → Type 0) (d0 d1 : D)
      → ReplyIsFound tells files (λ P. T → Where Stood (LeavesOnly clock might d0 d1) P) before faults count IsGiven
      → ReplyIsFound tells files (Where Stood (LeavesOnly clock might d0 d1)) before faults count IsGiven
  Replied-told T Stood t tells files before faults count IsGiven d0 d1 x =
      record { outside = x.outside; answers = x.answers; gives = x.gives; counted = x.counted; leaves = x.leaves t }

  -- the files stand for what is held before and after, and nothing is called
  pub leaves-none : (desk : D) (may_leave : ℕ → List ℕ → Type 0) (said : List ℕ) (state left : StateValue)
      → ((images : Images) (so_far : List ℕ) → might desk (clock desk) images so_far → MayBeLeft may_leave images × (so_far ≡ said))
      → ((images : Images) → MayBeLeft may_leave images → StandFor images state)
      → LeavesOnly clock might desk desk (StandsForEither said state left)
  leaves-none desk may_leave said state left only_now stands =
      started clock might desk (StandsForEither said state left)
      (λ images so_far here. let now = only_now images so_far here in record { silent = now.1; stands = inl (stands images now.0) })

-- files that are read as before stand for the same
pub same-stands : (old new : ℕ → List ℕ) (state : StateValue) → SameFiles old new → StandFor (images_of old) state → StandFor (images_of new) state
same-stands old new state same stood =
    subst (λ (images : Images). StandFor images state)
    (λ i. record { head = sym (same 0) i; bank1 = sym (same 1) i; bank2 = sym (same 2) i }) stood

-- ---- a line's step

-- where there is no reply panels have still counted their failures
pub gives-stopped : (r : Result (Option Reply) Stop) (model : Model) (before : List PanelValue) (now : Model)
    (panels : List PanelValue) (step : Step) → IsErr r → KeepFailures model.scenes before panels
    → GivesStep r model before now panels step
gives-stopped (Ok reply) model before now panels step e keeps = absurd (let f : false ≡ true = e in cc)
gives-stopped (Err stop) model before now panels step e keeps = keeps

-- they have where nothing was called
pub keep-same : (scenes : List SceneValue) (panels : List PanelValue) → KeepFailures scenes panels panels
keep-same scenes panels = λ starts known. known-counted starts panels scenes known

-- the desk isn't called
pub Replied-quiet : {D : Type 0} (clock : D → ℕ) (might : D → ℕ → Images → List ℕ → Type 0) (T Stood : Type 0) (tells : Bool) (files : Files) (desk : D)
    (may_leave : ℕ → List ℕ → Type 0) (before : Standing) (IsGiven : Step → Type 0)
    → (T → (images : Images) (so_far : List ℕ) → might desk (clock desk) images so_far → MayBeLeft may_leave images × (so_far ≡ before.said))
    → (T → Stood → (images : Images) → MayBeLeft may_leave images → StandFor images before.model.state)
    → IsGiven (step_at (unfailing files) before)
    → ReplyIsFound tells files (λ P. T → Where Stood (LeavesOnly clock might desk desk) P) before before.faults before.count IsGiven
Replied-quiet clock might T Stood tells files desk may_leave before IsGiven only_now stands gives = record {
  outside = unfailing files;
  answers = record { told = λ t. (false, refl); cause = λ limit name e. cc };
  gives = gives;
  counted = counted-within (step_at (unfailing files) before).most before.model.state
      (step_at (unfailing files) before).model.state before.count before.count (omega arith);
  leaves = λ t stood. leaves-none clock might desk may_leave before.said before.model.state
      (step_at (unfailing files) before).model.state (only_now t) (stands t stood);
}

-- a turn is taken
pub Replied-turn : (tells : Bool) (files : Files) (Leaves : (Images → List ℕ → Type 0) → Type 0) (before : Standing)
    (faults count : ℕ) (event : Event) (result : Result Reply TurnFault) (now : Model) (IsGiven : Step → Type 0)
    {X : Type 0} {V : X → Type 0} (members : Members X V) (old new : List (DynBox X Global V))
    → ((outside : FromOutside) → step_at outside before
    ≡ step_of (most_steps_at outside.fetches before.model event) (turn_of outside before.model event))
    → ((most : ℕ) (outside : FromOutside) → AreOfBoxes members event old new outside
    → GivesTurn result before.model now (turn_of outside before.model event)
    → IsGiven (step_of most (turn_of outside before.model event)))
    → TakesTurn (λ outside. AreFetched tells files before.faults faults outside.fetches
    × AreOfBoxes members event old new outside) Leaves before.said event before.model
    (λ most. TakesAtMost most before.model.state now.state before.count count) (GivesTurn result before.model now)
    → ReplyIsFound tells files Leaves before faults count IsGiven
Replied-turn tells files Leaves before faults count event result now IsGiven members old new is gives x =
    let turn : Turn = turn_of x.outside before.model event in
    let most : ℕ = most_steps_at x.outside.fetches before.model event in
    record {
      outside = x.outside;
      answers = x.answers.0;
      gives = subst IsGiven (sym (is x.outside)) (gives most x.outside x.answers.1 x.gives);
      counted = subst (λ (s : Step). TakesAtMost s.most before.model.state s.model.state before.count count)
          (sym (is x.outside))
          (counted-turn result before.model now turn most before.count count x.gives x.steps);
      leaves = subst (λ (s : Step). Leaves (StandsForEither before.said before.model.state s.model.state))
          (sym (is x.outside)) x.leaves;
    }

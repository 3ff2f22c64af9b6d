-- One script by a day, and without one.
use Rattle.std.proofs.Common.{◌≡◌, ℕ, ◌+◌, List, [], ◌∷◌, ◌++◌, Option, Some, None, Result, Ok, Err, refl, sym, ◌∙◌, ap, ap₂}
use Rattle.std.specs.Str.Lines.{lines}
use Rattle.chart_model.specs.declared.command.Command.{Command}
use Rattle.script_reader.specs.Reading.{event_in}
use Rattle.script_reader.specs.declared.event.Event.{Event}
use Rattle.script_reader.specs.declared.fault.LineFault.{LineFault}
use Rattle.script_reader.specs.declared.reply.Reply.{Reply}
use Rattle.session_core.specs.Days.{IsAlike, but_for_days}
use Rattle.session_core.specs.Fetch.{Fetches}
use Rattle.session_core.specs.Model.{Model}
use Rattle.session_core.specs.Outside.{FromOutside}
use Rattle.session_core.specs.Turn.{turn_of}
use Rattle.ecdis_cli.specs.Days.{AreAlikeFrom, AreFetchedAlike, GoAlike, IsAlikeStep}
use Rattle.ecdis_cli.specs.Run.{reading_of}
use Rattle.ecdis_cli.specs.Script.{commands_in, commands_of, first_answer, model_after, other_answers, steps_from, steps_of}
use Rattle.ecdis_cli.specs.Step.{Step, step_by, step_to}

-- what a session says of its turns
abbrev pub LeaveCharts : Type 0
LeaveCharts =
    (outside elsewhere : FromOutside) (model other : Model) (event : Event) → outside.fetches ≡ elsewhere.fetches
    → but_for_days model ≡ but_for_days other → IsAlike event (turn_of outside model event) (turn_of elsewhere other event)

-- ---- answers of the shelf

head-same : {A : Type 0} (x y : A) (xs ys : List A) → x ∷ xs ≡ y ∷ ys → x ≡ y
head-same x y xs ys same = cc

tail-same : {A : Type 0} (x y : A) (xs ys : List A) → x ∷ xs ≡ y ∷ ys → xs ≡ ys
tail-same x y xs ys same = cc

none-some : {A : Type 0} (x : A) (xs : List A) → [] ≡ x ∷ xs → ⊥
none-some x xs same = cc

first-alike : (answers others : List FromOutside) → AreFetchedAlike answers others
    → (first_answer answers).fetches ≡ (first_answer others).fetches
first-alike [] [] same = refl
first-alike [] (other ∷ others) same = absurd (none-some _ _ same)
first-alike (outside ∷ answers) [] same = absurd (none-some _ _ (sym same))
first-alike (outside ∷ answers) (other ∷ others) same = head-same _ _ _ _ same

rest-alike : (answers others : List FromOutside) → AreFetchedAlike answers others
    → AreFetchedAlike (other_answers answers) (other_answers others)
rest-alike [] [] same = refl
rest-alike [] (other ∷ others) same = absurd (none-some _ _ same)
rest-alike (outside ∷ answers) [] same = absurd (none-some _ _ (sym same))
rest-alike (outside ∷ answers) (other ∷ others) same = tail-same _ _ _ _ same

-- ---- steps

module _ (law : LeaveCharts) where
  step-alike : (outside elsewhere : FromOutside) (model other : Model) (number : ℕ) (read : Result (Option Event) LineFault)
      → outside.fetches ≡ elsewhere.fetches → but_for_days model ≡ but_for_days other
      → IsAlikeStep read (step_by outside model number read) (step_by elsewhere other number read)
  step-alike outside elsewhere model other number (Ok None) fetched same =
      record { command = refl; model = same; reply = λ no. refl }
  step-alike outside elsewhere model other number (Ok (Some event)) fetched same =
      let turn = law outside elsewhere model other event fetched same in
      record { command = turn.command; model = turn.model; reply = λ no. ap (λ (r : Reply). Some r) (turn.reply no) }
  step-alike outside elsewhere model other number (Err fault) fetched same =
      record { command = refl; model = same; reply = λ no. refl }

  line-alike : (outside elsewhere : FromOutside) (model other : Model) (number : ℕ) (line : List ℕ)
      → outside.fetches ≡ elsewhere.fetches → but_for_days model ≡ but_for_days other
      → IsAlikeStep (event_in number line) (step_to outside model number line) (step_to elsewhere other number line)
  unfolding step_to
  line-alike outside elsewhere model other number line fetched same =
      step-alike outside elsewhere model other number (event_in number line) fetched same

  steps-alike : (more : List (List ℕ)) (number : ℕ) (model other : Model) (answers others : List FromOutside)
      → but_for_days model ≡ but_for_days other → AreFetchedAlike answers others
      → AreAlikeFrom number more (steps_from model number more answers) (steps_from other number more others)
  steps-alike [] number model other answers others same fetched = tt
  steps-alike (line ∷ more) number model other answers others same fetched =
      let first =
      line-alike (first_answer answers) (first_answer others) model other number line (first-alike answers others fetched)
      same in (
        first,
        steps-alike more (number + 1) (step_to (first_answer answers) model number line).model
            (step_to (first_answer others) other number line).model (other_answers answers) (other_answers others)
            first.model (rest-alike answers others fetched),
      )

-- ---- what they leave

commands-alike : (number : ℕ) (more : List (List ℕ)) (steps others : List Step) → AreAlikeFrom number more steps others
    → commands_in steps ≡ commands_in others
commands-alike number [] [] [] alike = refl
commands-alike number [] [] (other ∷ others) alike = absurd alike
commands-alike number [] (step ∷ steps) others alike = absurd alike
commands-alike number (line ∷ more) [] others alike = absurd alike
commands-alike number (line ∷ more) (step ∷ steps) [] alike = absurd alike
commands-alike number (line ∷ more) (step ∷ steps) (other ∷ others) alike =
    ap₂ (λ (one : Option Command) (rest : List Command). commands_of one ++ rest) alike.0.command
    (commands-alike (number + 1) more steps others alike.1)

model-alike : (number : ℕ) (more : List (List ℕ)) (steps others : List Step) (model other : Model)
    → AreAlikeFrom number more steps others → but_for_days model ≡ but_for_days other
    → but_for_days (model_after model steps) ≡ but_for_days (model_after other others)
model-alike number [] [] [] model model' alike same = same
model-alike number [] [] (other ∷ others) model model' alike same = absurd alike
model-alike number [] (step ∷ steps) others model model' alike same = absurd alike
model-alike number (line ∷ more) [] others model model' alike same = absurd alike
model-alike number (line ∷ more) (step ∷ steps) [] model model' alike same = absurd alike
model-alike number (line ∷ more) (step ∷ steps) (other ∷ others) model model' alike same =
    model-alike (number + 1) more steps others step.model other.model alike.1 alike.0.model

pub goes-alike : LeaveCharts → (script : List ℕ) (model other : Model) (answers others : List FromOutside)
    → but_for_days model ≡ but_for_days other → AreFetchedAlike answers others
    → GoAlike script model other answers others
unfolding steps_of
goes-alike law script model other answers others same fetched =
    let steps = steps_of model script answers in
    let others' = steps_of other script others in
    let all = steps-alike law (lines script) 1 model other answers others same fetched in
    record {
      each_line = all;
      commands = commands-alike 1 (lines script) steps others' all;
      read = ap reading_of (model-alike 1 (lines script) steps others' model other all same);
    }

-- Lists of steps: what is said in them, their commands, and those whose reply was begun.
use Rattle.std.proofs.Common.{◌≡◌, ℕ, ◌+◌, ◌-◌, ◌≤◌, Bool, true, false, cond, List, [], ◌∷◌, ◌++◌, length, eqb, refl, sym, ◌∙◌, ap, arith, inl, inr, length-append, zero-add}
use Rattle.std.specs.Prelude.{Option}
use Rattle.std.specs.List.{All}
use Rattle.std.proofs.lemmas.Bool.Decides.{nat_tests}
use Rattle.std.proofs.lemmas.List.Elements.{All-head, All-tail}
use Rattle.std.proofs.lemmas.List.Sums.{fold-append, sum_by-append}
use Rattle.std.proofs.lemmas.Grind.{flat_map-append}
use Rattle.chart_model.specs.State.{StateValue}
use Rattle.chart_model.specs.declared.command.Command.{Command}
use Rattle.chart_store.specs.Outcome.{after, state_with}
use Rattle.session_core.specs.Model.{Model}
use Rattle.ecdis_cli.specs.Progress.{IsSpoken}
use Rattle.ecdis_cli.specs.Script.{begun_steps, commands_in, failures_in, commands_of, model_after, output_of}
use Rattle.ecdis_cli.specs.Step.{Step, said_in, tells_failure}

pub output-append : (xs ys : List Step) → output_of (xs ++ ys) ≡ output_of xs ++ output_of ys
output-append xs ys = flat_map-append said_in xs ys

pub commands-append : (xs ys : List Step) → commands_in (xs ++ ys) ≡ commands_in xs ++ commands_in ys
commands-append xs ys = flat_map-append (λ (step : Step). commands_of step.command) xs ys

pub failures-append : (xs ys : List Step) → failures_in (xs ++ ys) ≡ failures_in xs + failures_in ys
failures-append xs ys = sum_by-append (λ (step : Step). cond (tells_failure step.reply) 1 0) xs ys

pub model_after-append : (model : Model) (xs ys : List Step) → model_after model (xs ++ ys) ≡ model_after (model_after model xs) ys
model_after-append model [] ys = refl
model_after-append model (x ∷ xs) ys = model_after-append x.model xs ys

-- ---- commands, one after the other

pub after-none : (state : StateValue) → after state [] ≡ state
unfolding after
after-none state = refl

pub after-append : (state : StateValue) (xs ys : List Command) → after state (xs ++ ys) ≡ after (after state xs) ys
unfolding after
after-append state xs ys = fold-append state_with state xs ys

pub after-one : (state : StateValue) (command : Command) → after state (command ∷ []) ≡ state_with state command
unfolding after
after-one state command = refl

-- ---- replies that were begun

abbrev pub acknowledged : ℕ → List Step → ℕ
acknowledged bytes steps = length (commands_in (begun_steps bytes steps))

pub begun-none : (steps : List Step) → begun_steps 0 steps ≡ []
begun-none [] = refl
begun-none (step ∷ steps) = refl

-- what is said to later steps begins none of theirs
pub begun-front : (bytes : ℕ) (xs ys : List Step) → bytes ≤ length (output_of xs) → begun_steps bytes (xs ++ ys) ≡ begun_steps bytes xs
begun-front bytes [] ys h =
    let none : bytes ≡ 0 = omega (arith, h) in ap (λ (n : ℕ). begun_steps n ys) none ∙ begun-none ys
begun-front bytes (x ∷ xs) ys h =
    let within : bytes - length (said_in x) ≤ length (output_of xs) = omega (arith, h, length-append (said_in x) (output_of xs)) in
    let rest : begun_steps (bytes - length (said_in x)) (xs ++ ys) ≡ begun_steps (bytes - length (said_in x)) xs
    = begun-front (bytes - length (said_in x)) xs ys within in
    ap (λ (l : List Step). cond (eqb bytes 0) [] (x ∷ l)) rest

silent-command : (x : Step) → IsSpoken x → length (said_in x) ≡ 0 → length (commands_of x.command) ≡ 0
silent-command x (inl none) h = ap (λ (o : Option Command). length (commands_of o)) none
silent-command x (inr some) h = absurd (omega (arith, some, h))

-- a step whose reply was said whole, and some of what is said behind it
acknowledged-one : (bytes : ℕ) (x : Step) (xs : List Step) → IsSpoken x
    → acknowledged (length (said_in x) + bytes) (x ∷ xs) ≡ length (commands_of x.command) + acknowledged bytes xs
acknowledged-one bytes x xs spoken =
    let whole : ℕ = length (said_in x) + bytes in
    let P : Bool → Type 0 = λ (v : Bool). length (commands_in (cond v [] (x ∷ begun_steps (whole - length (said_in x)) xs)))
    ≡ length (commands_of x.command) + acknowledged bytes xs in
    elim (eqb whole 0) as (λ v. eqb whole 0 ≡ v → P v) [
      | true ↦ λ e.
          let nothing : whole ≡ 0 = grind (arith, nat_tests) in
          let mute : length (said_in x) ≡ 0 = omega (arith, nothing) in
          let none : bytes ≡ 0 = omega (arith, nothing) in
          let later : acknowledged bytes xs ≡ 0
          = ap (λ (n : ℕ). acknowledged n xs) none ∙ ap (λ (l : List Step). length (commands_in l)) (begun-none xs) in
          omega (arith, silent-command x spoken mute, later)
      | false ↦ λ e.
          let left : whole - length (said_in x) ≡ bytes = omega arith in
          length-append (commands_of x.command) (commands_in (begun_steps (whole - length (said_in x)) xs))
          ∙ ap (λ (n : ℕ). length (commands_of x.command) + acknowledged n xs) left
    ] refl

-- steps whose replies were said whole, and some of what is said behind them
pub acknowledged-behind : (bytes : ℕ) (xs ys : List Step) → All IsSpoken xs
    → acknowledged (length (output_of xs) + bytes) (xs ++ ys) ≡ length (commands_in xs) + acknowledged bytes ys
acknowledged-behind bytes [] ys spoken =
    ap (λ (n : ℕ). acknowledged n ys) (zero-add bytes) ∙ sym (zero-add (acknowledged bytes ys))
acknowledged-behind bytes (x ∷ xs) ys spoken =
    let counted : length (output_of (x ∷ xs)) + bytes ≡ length (said_in x) + (length (output_of xs) + bytes)
    = omega (arith, length-append (said_in x) (output_of xs)) in
    let here : acknowledged (length (said_in x) + (length (output_of xs) + bytes)) (x ∷ (xs ++ ys))
    ≡ length (commands_of x.command) + acknowledged (length (output_of xs) + bytes) (xs ++ ys)
    = acknowledged-one (length (output_of xs) + bytes) x (xs ++ ys) (All-head IsSpoken x xs spoken) in
    let rest : acknowledged (length (output_of xs) + bytes) (xs ++ ys) ≡ length (commands_in xs) + acknowledged bytes ys
    = acknowledged-behind bytes xs ys (All-tail IsSpoken x xs spoken) in
    let commands : length (commands_in (x ∷ xs)) ≡ length (commands_of x.command) + length (commands_in xs)
    = length-append (commands_of x.command) (commands_in xs) in
    ap (λ (n : ℕ). acknowledged n (x ∷ (xs ++ ys))) counted ∙ here ∙ omega (arith, rest, commands)

-- What a file is staged on stays held.
use Rattle.std.proofs.Common.{◌≡◌, ◌≢◌, ◌∙◌, ℕ, List, Option, Some, None, Result, Ok, Err, sym, ap, subst}
use Rattle.std.specs.Prelude.{IfOk, IfSome, OnErr}
use Rattle.std.specs.FinMap as map
use Rattle.chart_model.specs.Answers.{◌>>=◌}
use Rattle.chart_model.specs.State.{StateValue}
use Rattle.chart_model.specs.declared.command.Command.{Command}
use Rattle.chart_store.specs.declared.accepted.Accepted.{Accepted}
use Rattle.chart_store.specs.declared.refusal.Refusal.{Refusal}
use Rattle.chart_store.specs.declared.submit_fault.SubmitFault.{SubmitFault}
use Rattle.chart_store.specs.Loaded.{Outcome, chart_of, held_of}
use Rattle.chart_store.specs.Outcome.{Room, accepted, outcome, record_size, room_within}
use Rattle.chart_store.specs.Staging.{GoesOn, IsStagedOn, StagedValue, key_in}
use Rattle.chart_store.specs.Submitted.{GivesAccepted, accepted_with}

-- what the law of the store says of each command
abbrev pub ChangesAlone : Type 0
ChangesAlone = (state : StateValue) (command : Command) (done : Outcome) (key : List ℕ)
    → outcome state command ≡ Ok done → key ≢ done.key → map.get done.state.cells key ≡ map.get state.cells key

by-outcome : (found : Result Outcome Refusal) (room : Result (Unit {0}) Refusal) (done : Outcome)
    → (found >>= λ left. room >>= λ none. Ok left) ≡ Ok done → found ≡ Ok done
by-outcome (Err refusal) room done e = absurd cc
by-outcome (Ok left) (Err refusal) done e = absurd cc
by-outcome (Ok left) (Ok none) done e = e

accepted-outcome : (state : StateValue) (room : Room) (command : Command) (done : Outcome)
    → accepted state room command ≡ Ok done → outcome state command ≡ Ok done
unfolding accepted
accepted-outcome state room command done e =
    by-outcome (outcome state command) (room_within room (record_size command)) done e

-- steps leave it staged on the same
pub steps-stay : (state : StateValue) (n : ℕ) (before after : StagedValue)
    → GoesOn n before after → IsStagedOn state before → IsStagedOn state after
steps-stay state n before after goes on =
    subst (IsStagedOn state) (sym goes.same) (record { held = on.held; chart = on.chart })

-- and so does a command that isn't of its cell, or is not accepted
pub commands-stay : ChangesAlone → (state now : StateValue) (room : Room) (command : Command)
    (answer : Result Accepted SubmitFault) (count : Type 0) (staged left : Option StagedValue)
    → GivesAccepted answer now (accepted state room command) → OnErr answer ((now ≡ state) × count)
    → IfSome left (λ still. staged ≡ Some still)
    → IfOk answer (λ done. IfSome left (λ still. key_in still.file ≢ done.key))
    → IfSome staged (IsStagedOn state) → IfSome left (IsStagedOn now)
commands-stay alone state now room command answer count staged None given held same apart on = tt
commands-stay alone state now room command (Err fault) count staged (Some still) given held same apart on =
    subst (λ (s : StateValue). IsStagedOn s still) (sym held.0)
    (subst (λ (s : Option StagedValue). IfSome s (IsStagedOn state)) same on)
commands-stay alone state now room command (Ok done) count staged (Some still) given held same apart on =
    let here : IsStagedOn state still = subst (λ (s : Option StagedValue). IfSome s (IsStagedOn state)) same on in
    let stays = alone state command (accepted_with now done) (key_in still.file)
    (accepted-outcome state room command (accepted_with now done) given) apart in
    record { held = ap held_of stays ∙ here.held; chart = ap chart_of stays ∙ here.chart }

-- What a bank holds, by its checkpoint and its records.
use Rattle.std.proofs.Common.{ℕ, List, length, Option, refl, sym, ◌∙◌, ap, arith}
use Rattle.chart_model.specs.State.{StateValue}
use Rattle.chart_store.specs.Checkpoint.{checkpoint_in}
use Rattle.chart_store.specs.Images.{most_steps_from}
use Rattle.chart_store.proofs.Opened.{hold-foreign, hold-state}
use Rattle.chart_store.proofs.Reading.{not_begun}
use Rattle.chart_store.proofs.opening.hold.Goals as goal

pub returns-in_default-clause-foreign : goal.returns-in_default-clause-foreign
returns-in_default-clause-foreign g c =
    (refl, not_begun c.args.content (ap checkpoint_in (sym c.checkpoint.ensures) ∙ sym c.in_ok-first.ensures ∙ c.in_default.is))

pub returns-clause-state : goal.returns-clause-state
returns-clause-state g c =
    hold-state c.args.content c.in-Some.first (ap checkpoint_in (sym c.checkpoint.ensures) ∙ sym c.in_ok-first.ensures ∙ c.in-Some.is) _ c.replay.result
    c.replay.ensures.state (omega (arith, ap (λ (b : List ℕ). length b) c.checkpoint-2.ensures))

pub returns-clause-foreign : goal.returns-clause-foreign
returns-clause-foreign g c =
    hold-foreign c.args.content c.in-Some.first (ap checkpoint_in (sym c.checkpoint.ensures) ∙ sym c.in_ok-first.ensures ∙ c.in-Some.is) _ c.args.bank
    c.replay.result c.replay.ensures.foreign (omega (arith, ap (λ (b : List ℕ). length b) c.checkpoint-2.ensures))

pub returns-clause-at_most : goal.returns-clause-at_most
returns-clause-at_most g c =
    omega (
      arith,
      c.replay.ensures.at_most,
      ap (λ (o : Option StateValue). most_steps_from o c.args.content.bodies)
          (ap checkpoint_in (sym c.checkpoint.ensures) ∙ sym c.in_ok-first.ensures ∙ c.in-Some.is),
    )

use Rattle.std.proofs.Common.{inl, arith, refl}
use Rattle.panel_scenes.proofs.Places.{zip3-made}
use Rattle.panel_scenes.proofs.panel_scenes.new_scenes_are_in_step.Goals as goal

pub returns-clause-in_step : goal.returns-clause-in_step
returns-clause-in_step g c =
    zip3-made _ _ _ (λ panel. record { same = refl; agrees = λ _. tt; rose = inl (omega arith) }) c.args.panels.now

pub returns-clause-counted : goal.returns-clause-counted
returns-clause-counted g c =
    zip3-made _ _ _ (λ panel. record { counted = λ steady. refl; first = λ failed made. refl }) c.args.panels.now

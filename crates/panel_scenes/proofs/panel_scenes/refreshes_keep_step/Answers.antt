use Rattle.panel_scenes.proofs.Places.{zip3-renumbered}
use Rattle.panel_scenes.proofs.Shown.{refresh-agrees}
use Rattle.panel_scenes.proofs.panel_scenes.refreshes_keep_step.Goals as goal

pub returns-clause-in_step : goal.returns-clause-in_step
returns-clause-in_step g c =
    λ starts scenes k target before is so.
    zip3-renumbered _ k starts c.args.panels.now scenes before _ is
    (λ start panel held. record {
      same = held.same;
      agrees = λ tell. refresh-agrees target before _ (held.agrees tell);
      rose = held.rose;
    }) so

pub returns-clause-stale : goal.returns-clause-stale
returns-clause-stale g c =
    λ starts scenes k before is so.
    zip3-renumbered _ k starts c.args.panels.now scenes before _ is
    (λ start panel held. record { same = held.same; agrees = λ _. tt; rose = held.rose }) so

pub returns-clause-counted : goal.returns-clause-counted
returns-clause-counted g c =
    λ starts scenes k target before is so.
    zip3-renumbered _ k starts c.args.panels.now scenes before _ is
    (λ start panel held. record { counted = held.counted; first = held.first }) so

use Rattle.std.proofs.Common.{Some, sym, ap, ◌∙◌}
use Rattle.scene_sync.specs.Scene.{UnderWay}
use Rattle.scene_sync.proofs.Refreshes.{finished-shows}
use Rattle.scene_sync.proofs.scene.Scene.begin_refresh.Goals as goal

pub returns-clause-finished : goal.returns-clause-finished
returns-clause-finished c = λ finished.
    c.settled.ensures.shown
    ∙ finished-shows c.in_ok-refresh.refresh (sym c.settled.ensures.refresh ∙ finished)
    ∙ ap (λ (u : UnderWay). Some u.target) c.in_ok-refresh.ensures.planned

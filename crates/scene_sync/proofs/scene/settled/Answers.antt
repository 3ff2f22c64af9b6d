use Rattle.std.proofs.Common.{Some, sym, ap, ◌∙◌}
use Rattle.scene_sync.proofs.Refreshes.{all-shown}
use Rattle.scene_sync.proofs.scene.settled.Goals as goal

pub returns-then-is_finished-clause-shown : goal.returns-then-is_finished-clause-shown
returns-then-is_finished-clause-shown c =
    ap Some c.into_target.ensures ∙ sym (all-shown c.args.refresh (sym c.is_finished.ensures ∙ c.if-is_finished.true))

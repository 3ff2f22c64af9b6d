-- A refresh that begins, or not.
use Rattle.std.proofs.Common.{refl, sym}
use Rattle.session_core.proofs.PanelTurns.{err-untouched, refreshed-panels}
use Rattle.session_core.proofs.panels.refresh.Goals as goal

pub returns-in_err-can_refresh-clause-panels : goal.returns-in_err-can_refresh-clause-panels
returns-in_err-can_refresh-clause-panels g c =
    err-untouched _ _ _ _ _ _ c.from_residual.result _ c.args.panels.now c.args.panels.now _ _ c.from_residual.ensures.1
    refl refl

pub returns-in_err-target-clause-panels : goal.returns-in_err-target-clause-panels
returns-in_err-target-clause-panels g c =
    err-untouched _ _ _ _ _ _ c.from_residual-in_err-target.result _ c.args.panels.now c.args.panels.now _ _
    c.from_residual-in_err-target.ensures.1 refl refl

pub returns-in_err-refresh-clause-panels : goal.returns-in_err-refresh-clause-panels
returns-in_err-refresh-clause-panels g c =
    err-untouched _ _ _ _ _ _ c.from_residual-in_err-refresh.result _ c.args.panels.now c.args.panels.now _ _
    c.from_residual-in_err-refresh.ensures.1 refl refl

pub returns-clause-panels : goal.returns-clause-panels
returns-clause-panels g c =
    refreshed-panels _ _ _ _ _ c.args.k c.args.panels.now c.args.scenes.now c.refresh.new.self c.in_ok-target.target _
    (sym c.in_ok-can_refresh.ensures) c.in_ok-refresh.ensures.ok
    (λ starts before is so. c.refreshes_keep_step.ensures.in_step starts c.args.scenes.now c.args.k
    c.in_ok-target.target before is so)
    (λ starts before is known. c.refreshes_keep_step.ensures.counted starts c.args.scenes.now c.args.k
    c.in_ok-target.target before is known)

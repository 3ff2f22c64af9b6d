use Rattle.panel_port.proofs.Scenes.{counted-all}
use Rattle.panel_port.proofs.shown.item_count.Goals as goal

pub returns : goal.returns
returns c =
    let all = c.loop-block.invariant in
    counted-all c.loop-block.items _ _ c.in-None.ensures.steps.0 all.in_range all.counted

use Rattle.std.proofs.Common.{take}
use Rattle.scene_sync.specs.Calls.{calls_in}
use Rattle.scene_sync.proofs.Paints.{Made}
use Rattle.scene_sync.proofs.call.make_calls.Given as goal

abbrev pub invariant-loop-call : goal.invariant-loop-call
invariant-loop-call g l =
    let panel = goal.Panel-dyn g l.panel.now in
    let before = goal.Panel-dyn g l.fn.panel.now in
    Made (calls_in l.target (take l.call-index l.next)) l.call-index
    (before.tells l.fn.panel.now.1) (panel.tells l.panel.now.1)
    (before.scene l.fn.panel.now.1) (panel.scene l.panel.now.1)
    (before.calls l.fn.panel.now.1) (panel.calls l.panel.now.1)
    (before.faults l.fn.panel.now.1) (panel.faults l.panel.now.1)
    l.fn.panel.now l.panel.now

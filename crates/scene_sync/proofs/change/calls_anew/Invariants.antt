use Rattle.scene_sync.proofs.Plans.{AreAnew}
use Rattle.scene_sync.proofs.change.calls_anew.Given as goal

abbrev pub invariant-loop-place : goal.invariant-loop-place
invariant-loop-place l = AreAnew l.target l.calls.items l.place

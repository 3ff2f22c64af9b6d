-- What the answer to a change tells of its fault.
use Rattle.std.proofs.Common.{◌≡◌, Option, Some, None, refl}
use Rattle.std.specs.Prelude.{Ok}
use Rattle.update_apply.specs.Fault.{Judges}
use Rattle.update_apply.specs.declared.fault.ChangeFault.{ChangeFault}

-- a change that passes has no fault
pub no-fault : (done : Unit {0}) (found : Option ChangeFault) → Judges (Ok done) found → None ≡ found
no-fault done None h = refl
no-fault done (Some what) h = absurd cc

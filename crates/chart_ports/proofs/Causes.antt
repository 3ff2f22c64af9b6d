-- A call that passes on a failure has the cause of that failure.
use Rattle.std.proofs.Common.{ℕ, Result, IsErr}
use Rattle.chart_ports.specs.Count.{HasCause}

pub has_cause_passed : {T E T' E' : Type 0} (before now : ℕ) (first : Result T E) (result : Result T' E') → IsErr first → HasCause before now first → HasCause before now result
has_cause_passed before now first result err cause = record { later = cause.later; failed = λ _. cause.failed err }

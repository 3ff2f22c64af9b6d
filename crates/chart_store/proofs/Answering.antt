-- What was to be answered, by what a call answers.
use Rattle.std.proofs.Common.{◌≡◌, Result, Ok, Err}
use Rattle.chart_model.specs.Answers.{or_fault_as}
use Rattle.chart_model.specs.Memory as memory
use Rattle.chart_store.specs.declared.refusal.Refusal.{Refusal}
use Rattle.chart_store.specs.declared.fault.TakeFault.{TakeFault}
use Rattle.chart_store.specs.declared.fault.TakeFault.TheVariants.{Refused, NoMemory}

pub given-ok : {A : Type 0} (wanted : Result A Refusal) (x : A) → or_fault_as Refused wanted ≡ Ok x → wanted ≡ Ok x
given-ok (Ok y) x h = cc
given-ok (Err refusal) x h = absurd cc

pub given-err : {A : Type 0} (wanted : Result A Refusal) (refusal : Refusal) →
    or_fault_as Refused wanted ≡ Err (Refused refusal) → wanted ≡ Err refusal
given-err (Ok x) refusal h = absurd cc
given-err (Err other) refusal h = cc

-- the fault is the refusal that there is, or want of memory
abbrev pub Fails : {A : Type 0} → TakeFault → Result A Refusal → Type 0
Fails fault wanted = memory.Fails NoMemory fault (or_fault_as Refused wanted)

pub Fails-refused : {A : Type 0} (wanted : Result A Refusal) (refusal : Refusal) → Fails (Refused refusal) wanted →
    wanted ≡ Err refusal
Fails-refused wanted refusal h = given-err wanted refusal (h (λ (e : Refused refusal ≡ NoMemory). cc))

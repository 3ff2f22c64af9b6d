-- What a call of the store answers: a value, or why a file is not taken over. Want of memory is free.
use Rattle.std.specs.Prelude.{Option, Some, None, unwrap_or, Result}
use Rattle.chart_model.specs.Answers.{or_fault_as}
use Rattle.chart_model.specs.Memory as memory
use Rattle.chart_store.specs.declared.refusal.Refusal.{Refusal}
use Rattle.chart_store.specs.declared.refusal.Refusal.TheVariants as refuses
use Rattle.chart_store.specs.declared.fault.TakeFault.{TakeFault}
use Rattle.chart_store.specs.declared.fault.TakeFault.TheVariants.{Refused, NoMemory}

-- the fault that tells a refusal
abbrev pub fault_of : Option Refusal → TakeFault
fault_of (Some refusal) = Refused refusal
fault_of None = NoMemory

-- the answer, seen by view, is what was to be answered, a refusal as the fault that tells it, unless memory ran out
abbrev pub GivesBy : {X Y : Type 0} → (X → Y) → Result X TakeFault → Result Y Refusal → Type 0
GivesBy view answer wanted = memory.GivesBy NoMemory view answer (or_fault_as Refused wanted)

-- The value, or what its fault is refused as. No definition answers want of memory, so what stands in its place is
-- never seen.
abbrev pub or_refused : {A E : Type 0} → (E → Option Refusal) → Result A E → Result A Refusal
or_refused refusal result = or_fault_as (λ fault. unwrap_or (refusal fault) refuses.NoGeneral) result

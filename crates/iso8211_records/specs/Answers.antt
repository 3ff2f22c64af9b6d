-- What a reader answers, beside what its bytes hold.
use Rattle.std.specs.Prelude.{Result}
use Rattle.chart_model.specs.Memory as memory
use Rattle.iso8211_records.specs.declared.fault.FileFault.{FileFault}
use Rattle.iso8211_records.specs.declared.fault.FileFault.TheVariants.{NoMemory}

-- the fault is the one that there is, unless memory ran out
abbrev pub Fails : {X : Type 0} → FileFault → Result X FileFault → Type 0
Fails fault read = memory.Fails NoMemory fault read

-- the answer, seen by view, is what was to be read or its fault, unless memory ran out
abbrev pub GivesBy : {X Y : Type 0} → (X → Y) → Result X FileFault → Result Y FileFault → Type 0
GivesBy view answer read = memory.GivesBy NoMemory view answer read

abbrev pub Gives : {X : Type 0} → Result X FileFault → Result X FileFault → Type 0
Gives answer read = memory.Gives NoMemory answer read

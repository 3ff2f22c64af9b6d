-- What a call answers, beside what it was to answer: want of memory is free.
use Rattle.std.specs.Prelude.{Result}
use Rattle.chart_model.specs.Memory.{Gives}
use Rattle.cell_bytes.specs.declared.fault.WriteFault.{WriteFault}
use Rattle.cell_bytes.specs.declared.fault.WriteFault.TheVariants.{NoMemory}

-- the answer is what was to be answered, unless memory ran out
abbrev pub GivesWritten : {X : Type 0} → Result X WriteFault → Result X WriteFault → Type 0
GivesWritten answer wanted = Gives NoMemory answer wanted

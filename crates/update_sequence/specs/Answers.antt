-- What a call answers, beside what it was to answer: want of memory is free.
use Rattle.std.specs.Prelude.{Result}
use Rattle.chart_model.specs.Memory as memory
use Rattle.update_apply.specs.declared.fault.ChangeFault.{ChangeFault}
use Rattle.update_apply.specs.declared.fault.ChangeFault.TheVariants as of_change
use Rattle.update_sequence.specs.declared.fault.ReadFault.{ReadFault}
use Rattle.update_sequence.specs.declared.fault.ReadFault.TheVariants as of_read
use Rattle.update_sequence.specs.declared.fault.BuildFault.{BuildFault}
use Rattle.update_sequence.specs.declared.fault.BuildFault.TheVariants as of_build

-- the answer is what was to be answered, unless memory ran out
abbrev pub GivesRead : {X : Type 0} → Result X ReadFault → Result X ReadFault → Type 0
GivesRead answer wanted = memory.Gives of_read.NoMemory answer wanted

-- the fault of a change, as one of a data set's chart
abbrev pub fault_of_change : ChangeFault → BuildFault
fault_of_change of_change.NoMemory = of_build.NoMemory
fault_of_change fault = of_build.Change fault

-- the same of a chart
abbrev pub GivesBuilt : {X : Type 0} → Result X BuildFault → Result X BuildFault → Type 0
GivesBuilt answer wanted = memory.Gives of_build.NoMemory answer wanted

-- What a reader answers, beside what it was to answer.
use Rattle.std.specs.Prelude.{Result}
use Rattle.chart_model.specs.Memory as memory
use Rattle.s57_records.specs.declared.fault.DatasetFault.{DatasetFault}
use Rattle.s57_records.specs.declared.fault.DatasetFault.TheVariants.{NoMemory}

-- want of memory is free
abbrev pub Fails : {X : Type 0} → DatasetFault → Result X DatasetFault → Type 0
Fails fault wanted = memory.Fails NoMemory fault wanted

abbrev pub Gives : {X : Type 0} → Result X DatasetFault → Result X DatasetFault → Type 0
Gives answer wanted = memory.Gives NoMemory answer wanted

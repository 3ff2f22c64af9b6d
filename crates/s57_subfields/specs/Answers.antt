-- What a reader answers, beside what it was to answer.
use Rattle.std.specs.Prelude.{ℕ, List, Result}
use Rattle.chart_model.specs.Memory as memory
use Rattle.s57_subfields.specs.declared.fault.FieldFault.{FieldFault}
use Rattle.s57_subfields.specs.declared.fault.FieldFault.TheVariants.{MissingField, Value as BadValue, NoMemory}
use Rattle.s57_subfields.specs.RowValues.{RowValues}

-- a subfield of the row isn't in the field's descriptor
abbrev pub missing_field : RowValues → FieldFault
missing_field row = MissingField row.number row.tag

-- a value under the label isn't what it has to be
abbrev pub bad_value : RowValues → List ℕ → FieldFault
bad_value row label = BadValue row.number label

-- want of memory is free
abbrev pub Fails : {X : Type 0} → FieldFault → Result X FieldFault → Type 0
Fails fault wanted = memory.Fails NoMemory fault wanted

abbrev pub GivesBy : {X Y : Type 0} → (X → Y) → Result X FieldFault → Result Y FieldFault → Type 0
GivesBy view answer wanted = memory.GivesBy NoMemory view answer wanted

abbrev pub Gives : {X : Type 0} → Result X FieldFault → Result X FieldFault → Type 0
Gives answer wanted = memory.Gives NoMemory answer wanted

-- What calls answer, beside what they were to answer: want of memory is free.
use Rattle.std.specs.Prelude.{Result}
use Rattle.chart_model.specs.Memory as memory
use Rattle.iso8211_records.specs.declared.fault.FileFault.{FileFault}
use Rattle.iso8211_records.specs.declared.fault.FileFault.TheVariants as of_file
use Rattle.s57_subfields.specs.declared.fault.FieldFault.{FieldFault}
use Rattle.s57_subfields.specs.declared.fault.FieldFault.TheVariants as of_field
use Rattle.exchange_catalogue.specs.declared.fault.CatalogueFault.{CatalogueFault}
use Rattle.exchange_catalogue.specs.declared.fault.CatalogueFault.TheVariants as of_catalogue
use Rattle.exchange_catalogue.specs.declared.fault.OrderFault.{OrderFault}
use Rattle.exchange_catalogue.specs.declared.fault.OrderFault.TheVariants as of_order

-- the fault of a file of records, as one of a catalogue
abbrev pub fault_of_file : FileFault → CatalogueFault
fault_of_file of_file.NoMemory = of_catalogue.NoMemory
fault_of_file fault = of_catalogue.File fault

-- the fault of an entry
abbrev pub fault_of_field : FieldFault → CatalogueFault
fault_of_field (of_field.MissingField number tag) = of_catalogue.MissingField number tag
fault_of_field (of_field.Value number label) = of_catalogue.Value number label
fault_of_field of_field.NoMemory = of_catalogue.NoMemory

-- the answer is what was to be answered, unless memory ran out
abbrev pub GivesCatalogue : {X : Type 0} → Result X CatalogueFault → Result X CatalogueFault → Type 0
GivesCatalogue answer wanted = memory.Gives of_catalogue.NoMemory answer wanted

-- the same of a load order
abbrev pub GivesOrder : {X : Type 0} → Result X OrderFault → Result X OrderFault → Type 0
GivesOrder answer wanted = memory.Gives of_order.NoMemory answer wanted

-- the same, of an answer that is seen by view
abbrev pub GivesOrderBy : {X Y : Type 0} → (X → Y) → Result X OrderFault → Result Y OrderFault → Type 0
GivesOrderBy view answer wanted = memory.GivesBy of_order.NoMemory view answer wanted

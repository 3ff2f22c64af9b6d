-- Answers of reading a catalogue, with want of memory left free.
use Rattle.std.specs.Prelude.{Result}
use Rattle.chart_model.specs.Memory as memory
use Rattle.object_catalogue.specs.Codes.{CatalogueValue}
use Rattle.object_catalogue.specs.declared.fault.CatalogueFault.{CatalogueFault}
use Rattle.object_catalogue.specs.declared.fault.CatalogueFault.TheVariants.{NoMemory}

abbrev pub Answers : Result CatalogueValue CatalogueFault → Result CatalogueValue CatalogueFault → Type 0
Answers answer wanted = memory.Gives NoMemory answer wanted

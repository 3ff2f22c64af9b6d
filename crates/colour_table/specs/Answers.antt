-- Answers of reading a file of colours, with want of memory left free.
use Rattle.std.specs.Prelude.{List, Result}
use Rattle.chart_model.specs.Memory as memory
use Rattle.colour_table.specs.declared.swatch.Swatch.{Swatch}
use Rattle.colour_table.specs.declared.fault.ColoursFault.{ColoursFault}
use Rattle.colour_table.specs.declared.fault.ColoursFault.TheVariants.{NoMemory}

abbrev pub Answers : Result (List Swatch) ColoursFault → Result (List Swatch) ColoursFault → Type 0
Answers answer wanted = memory.Gives NoMemory answer wanted

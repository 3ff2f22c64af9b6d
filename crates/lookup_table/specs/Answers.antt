-- Answers of reading a table, with want of memory left free.
use Rattle.std.specs.Prelude.{List, Option, Result}
use Rattle.std.specs.Option.{option_to_list}
use Rattle.chart_model.specs.Memory as memory
use Rattle.lookup_table.specs.declared.fault.TableFault.{TableFault}
use Rattle.lookup_table.specs.declared.fault.TableFault.TheVariants.{NoMemory}
use Rattle.lookup_table.specs.declared.line.TableLine.{TableLine}

abbrev pub Answers : Result (List TableLine) TableFault → Result (List TableLine) TableFault → Type 0
Answers answer wanted = memory.Gives NoMemory answer wanted

-- the same of one line, which may say nothing
abbrev pub AnswersLine : Result (Option TableLine) TableFault → Result (List TableLine) TableFault → Type 0
AnswersLine answer wanted = memory.GivesBy NoMemory option_to_list answer wanted

-- the same of a line that says something
abbrev pub AnswersNamed : Result TableLine TableFault → Result TableLine TableFault → Type 0
AnswersNamed answer wanted = memory.Gives NoMemory answer wanted

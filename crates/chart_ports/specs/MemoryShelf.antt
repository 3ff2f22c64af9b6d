-- What contracts see of a shelf in memory.
use Rattle.std.specs.Prelude.{ℕ, List, Option}
use Rattle.std.specs.BTreeMap.{get_by_text}
use Rattle.chart_ports.specs.declared.calls.Calls.{Calls}
use Rattle.chart_ports.specs.declared.memory_shelf.MemoryShelf.{MemoryShelf}

-- the bytes of the file of a name, where there is one
abbrev pub file_of : MemoryShelf → List ℕ → Option (List ℕ)
file_of shelf name = get_by_text shelf.files name

-- its calls
abbrev pub calls_of : MemoryShelf → Calls
calls_of shelf = shelf.calls
